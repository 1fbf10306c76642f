-- The serial that is noted of a group is that of memory; a call that wants more serials than are left wants them by the note, and one that is done did not.
use Rattle.std.proofs.Common.{◌≡◌, ◌∙◌, ◌+◌, ◌-◌, ◌&&◌, ◌<◌, ◌≤◌, ℕ, Bool, true, false, length, ap, sym, subst, refl, arith}
use Rattle.std.specs.Prelude.{Option, Some, None, if◌then◌else◌, nat_le, nat_lt, not}
use Rattle.std.proofs.lemmas.Bool.Decides.{nat_tests}
use Rattle.vx_model.specs.declared.limits.TheConstants.{COMMIT_MARGIN, MOST_NUMBER}
use Rattle.vx_model.specs.declared.no.Counted.TheVariants.{Number as Numbers}
use Rattle.vx_model.specs.declared.no.Named.TheVariants.{Number}
use Rattle.vx_model.specs.declared.no.No.{No}
use Rattle.vx_model.specs.declared.no.No.TheVariants.{LastPlex, Limit, Unknown}
use Rattle.vx_disk.specs.declared.shelf.Shelf.{Ghosts}
use Rattle.vx_config.specs.Checks.{plexes_of}
use Rattle.vx_config.specs.Table.{greatest}
use Rattle.vx_config.specs.declared.config.Config.{Config}
use Rattle.vx_history.specs.Groups.{GroupNode}
use Rattle.vx_history.specs.World.{Node}
use Rattle.vx_volume.specs.Plexes.{active}
use Rattle.vx_group.specs.Attaches.{att_refusal}
use Rattle.vx_group.specs.Dets.{any_below, det_refusal, is_other, margin}
use Rattle.vx_grouped.specs.GroupSites.{UpNoted}
use Rattle.vx_grouped.specs.SiteEnds.{refuses_att, refuses_det}
use Rattle.vx_grouped.specs.SiteMaps.{StandMaps}
use Rattle.vx_grouped.specs.declared.group_site.GroupSite.{GroupSite}
use Rattle.vx_grouped.specs.declared.group_site.GroupSite.TheVariants.{Up as SiteUp, Deported as SiteAway, Down as SiteDown, Marked, Gone as SiteGone}
use Rattle.vx_grouped.specs.declared.laid.Laid.{Laid}
use Rattle.vx_events.specs.GroupEnds.{LacksSerials}

past_is : (n v : ℕ) → nat_lt n v ≡ true → n < v
past_is n v past = grind (arith, nat_tests)

pub lacks_past : (note : GroupNode) (serial : ℕ) → note.maps.serial ≡ serial → greatest - margin < serial → LacksSerials note
lacks_past note serial is past = subst (λ (k : ℕ). MOST_NUMBER < k + COMMIT_MARGIN) (sym is) (omega (arith, past))

pub lacks_by : (note : GroupNode) (serial : ℕ) → note.maps.serial ≡ serial → nat_lt (greatest - margin) serial ≡ true → LacksSerials note
lacks_by note serial is past = lacks_past note serial is (past_is (greatest - margin) serial past)

-- ---- serials are left where no test refuses

not_past : (n v : ℕ) → nat_lt n v ≡ false → v ≤ n
not_past n v past = grind (arith, nat_tests)

left_by : (note : GroupNode) (serial : ℕ) → note.maps.serial ≡ serial → nat_lt (greatest - margin) serial ≡ false → LacksSerials note → ⊥
left_by note serial is past lacks = absurd (let most = not_past (greatest - margin) serial past in omega (arith, is, most, lacks))

last_off : (t u w x : Bool) (n1 n2 n3 n4 : No) → (if t then Some n1 else (if u then Some n2 else (if w then Some n3 else (if x then Some n4 else None)))) ≡ None → x ≡ false
last_off true u w x n1 n2 n3 n4 is = let clash : Some n1 ≡ None = is in cc
last_off false true w x n1 n2 n3 n4 is = let clash : Some n2 ≡ None = is in cc
last_off false false true x n1 n2 n3 n4 is = let clash : Some n3 ≡ None = is in cc
last_off false false false true n1 n2 n3 n4 is = let clash : Some n4 ≡ None = is in cc
last_off false false false false n1 n2 n3 n4 is = refl

module _ (c : Config) (v p : ℕ) where
  det_room : det_refusal c v p ≡ None → nat_lt (greatest - margin) c.serial ≡ false
  det_room =
      last_off (nat_le (length c.volumes) v) (nat_le (plexes_of c v) p) (active c v p && not (any_below (is_other c v p) (plexes_of c v))) (nat_lt (greatest - margin) c.serial)
      (Unknown (Number v)) (Unknown (Number p)) LastPlex (Limit Numbers greatest)

  att_room : att_refusal c v p ≡ None → nat_lt (greatest - margin) c.serial ≡ false
  att_room = last_off (nat_le (length c.volumes) v) (nat_le (plexes_of c v) p) false (nat_lt (greatest - margin) c.serial) (Unknown (Number v)) (Unknown (Number p)) LastPlex (Limit Numbers greatest)

module _ {R : Type 0} {g : Ghosts R} where
  pub serial_noted : (note : GroupNode) (group : Laid R g) → StandMaps note (SiteUp group) → note.maps.serial ≡ group.core.inner.config.serial
  serial_noted note group maps = maps.maps.serial ∙ ap (λ (c : Config). c.serial) (sym (maps.up group.core.inner.config refl))

  -- a detach that no test refuses, and an attach
  pub det_left : (n : Node) (note : GroupNode) (e : GroupSite R g) (v p : ℕ) → UpNoted n note e → StandMaps note e → ((no : No) → refuses_det e v p ≡ Some no → ⊥) → LacksSerials note → ⊥
  det_left n note (SiteUp group) v p up maps never lacks = by (det_refusal group.core.inner.config v p) refl
    where
      by : (o : Option No) → det_refusal group.core.inner.config v p ≡ o → ⊥
      by None is = left_by note group.core.inner.config.serial (serial_noted note group maps) (det_room group.core.inner.config v p is) lacks
      by (Some why) is = never why is
  det_left n note (SiteAway idle) v p up maps never lacks = up
  det_left n note (SiteDown idle) v p up maps never lacks = up
  det_left n note (Marked rack) v p up maps never lacks = up
  det_left n note SiteGone v p up maps never lacks = up

  pub att_left : (n : Node) (note : GroupNode) (e : GroupSite R g) (v p : ℕ) → UpNoted n note e → StandMaps note e → ((no : No) → refuses_att e v p ≡ Some no → ⊥) → LacksSerials note → ⊥
  att_left n note (SiteUp group) v p up maps never lacks = by (att_refusal group.core.inner.config v p) refl
    where
      by : (o : Option No) → att_refusal group.core.inner.config v p ≡ o → ⊥
      by None is = left_by note group.core.inner.config.serial (serial_noted note group maps) (att_room group.core.inner.config v p is) lacks
      by (Some why) is = never why is
  att_left n note (SiteAway idle) v p up maps never lacks = up
  att_left n note (SiteDown idle) v p up maps never lacks = up
  att_left n note (Marked rack) v p up maps never lacks = up
  att_left n note SiteGone v p up maps never lacks = up
