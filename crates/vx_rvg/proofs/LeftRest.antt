-- What a crash leaves of a group whose log is at rest: one log.
use Rattle.std.proofs.Common.{◌≡◌, ◌∙◌, ⊎_elim, ℕ, ◌+◌, ◌<◌, ◌≤◌, List, [], IsTrue, ap, arith, subst}
use Rattle.vx_model.specs.Content.{Write}
use Rattle.vx_srlfmt.specs.Kinds.{Kind}
use Rattle.vx_srlfmt.specs.declared.header.Header.{Header}
use Rattle.vx_disk.specs.Shelf.{Meaning}
use Rattle.vx_ringlog.specs.Cells.{AmongPairs}
use Rattle.vx_ringlog.specs.Logs.{State}
use Rattle.vx_ringlog.proofs.Rest.{rest_is_still}
use Rattle.vx_ringio.specs.Classes.{class_of}
use Rattle.vx_ringio.specs.Reading.{LeavesAs}
use Rattle.vx_srl.specs.Rings.{RingOn}
use Rattle.vx_rvg.specs.Contents.{KeepsContent}
use Rattle.vx_rvg.specs.Holdings.{Holding}
use Rattle.vx_rvg.specs.Stands.{LeftGroup, Stands}
use Rattle.vx_rvg.specs.Views.{Core}

module _ (core : Core) (h : Holding) (m : Meaning) (stands : Stands core h m) (tells : IsTrue m.tells) (some : 0 < h.low) (unit : core.log.unit ≡ core.units.srl) where
  abbrev log : State
  log = stands.log

  ring : RingOn core.log log m
  ring = stands.ready.ring

  none_loose : log.unit.loose ≡ []
  none_loose = ring.is_log.still stands.ready.idle

  -- each block of the log has one value
  one : (b : ℕ) (v : List ℕ) → b < core.log.ring + 2 → m.leaves core.log.unit b v → class_of core.log.ring v ≡ log.unit.stable b
  one b v low left = ⊎_elim (λ is. is) (λ among. absurd (subst (λ (ps : List (ℕ × Kind)). AmongPairs b (class_of core.log.ring v) ps) none_loose among)) (ring.tracks.leaves b v low left)

  leaves : LeavesAs core.units.srl core.log.ring log.unit.stable m
  leaves = subst (λ (u : ℕ). LeavesAs u core.log.ring log.unit.stable m) unit (record { tells = tells; each = one; beyond = ring.tracks.beyond })

  pub left_rest : (stamp : ℕ) → core.log.header.stamp ≤ stamp → LeftGroup core.units core.log.ring core.log.header.state core.log.header.incarnation stamp h m
  left_rest stamp most = record {
    header = log.header;
    records = log.held;
    kinds = log.unit.stable;
    leaves = leaves;
    recovers = rest_is_still core.log.ring log ring.is_log stands.ready.idle;
    state_is = ap (λ (x : Header). x.state) ring.describes.header;
    session_is = ap (λ (x : Header). x.incarnation) ring.describes.header;
    stamp_most = (let same = ap (λ (x : Header). x.stamp) ring.describes.header in omega (arith, same, most));
    some = some;
    low_is = ap (λ (x : Header). x.low) ring.describes.header ∙ stands.low;
    writes_are = stands.writes;
    place_is = ap (λ (x : Header). x.place) ring.describes.header ∙ stands.place;
    sizes = stands.ready.sizes;
    content = subst (λ (xs : List Write). KeepsContent core.units.vols h.content xs m) stands.writes stands.ready.content;
    maps = stands.maps;
  }
