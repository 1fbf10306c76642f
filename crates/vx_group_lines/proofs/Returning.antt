-- What an import of the disks of a site takes up, as its note has it.
use Rattle.std.proofs.Common.{◌≡◌, ◌∙◌, ◌⊎◌, inl, inr, ◌<◌, ℕ, Bool, true, false, [], length, sym, subst, refl, arith, IsTrue}
use Rattle.std.specs.Prelude.{Contains, Option, Some, slice_get}
use Rattle.std.proofs.lemmas.Option.{slice_get_within}
use Rattle.vx_disk.specs.Counts.{Rose}
use Rattle.vx_disk.specs.Shelf.{Meaning}
use Rattle.vx_disk.specs.declared.shelf.Shelf.{Ghosts}
use Rattle.vx_config.specs.Changes.{Matched}
use Rattle.vx_config.specs.declared.entry.DiskEntry.{DiskEntry}
use Rattle.vx_config.specs.declared.entry.PlexEntry.{PlexEntry}
use Rattle.vx_config.specs.declared.entry.VolumeEntry.{VolumeEntry}
use Rattle.vx_kept.specs.Cleans.{at_serial}
use Rattle.vx_history.specs.Groups.{GroupNode}
use Rattle.vx_history.specs.World.{Node}
use Rattle.vx_grouped.specs.Clean.{StopsClean}
use Rattle.vx_grouped.specs.ConfigMoves.{AnyState, OpensMoves, PlexMoves, VolumeMoves}
use Rattle.vx_grouped.specs.GroupNotes.{note_dimmed}
use Rattle.vx_grouped.specs.GroupSites.{site_disks}
use Rattle.vx_grouped.specs.SiteReturns.{ConfigReturns, NoteReturns}
use Rattle.vx_grouped.specs.declared.group_site.GroupSite.{GroupSite}
use Rattle.vx_events.specs.Fails.{Fails}
use Rattle.vx_events.specs.GroupConfigs.{PlexStays, StateOpens, VolumeGoesBy, VolumeStays}
use Rattle.vx_events.specs.GroupEnds.{KnowsNothing}
use Rattle.vx_events.specs.GroupMaps.{StoppedClean}
use Rattle.vx_events.specs.GroupNotes.{IsKnown, NotesBack}
use Rattle.vx_group_lines.proofs.Dimming.{dark_moves}
use Rattle.vx_above.proofs.GroupStatus.{config_is}
use Rattle.vx_above.proofs.Losing.{Names, placed_as, state_opens, volume_goes}
use Rattle.vx_group_lines.proofs.MapReturns.{clean_to}

plex_stays : (v : VolumeEntry) (p q : PlexEntry) → PlexMoves (AnyState v) p q → PlexStays p q
plex_stays v p q it = record { subdisks = it.subdisks }

pub volume_stays : (v u : VolumeEntry) → VolumeMoves AnyState v u → VolumeStays v u
volume_stays v u it = record {
  name = it.name;
  blocks = it.blocks;
  ncol = it.ncol;
  width = it.width;
  prefer = it.prefer;
  drl = it.drl;
  fmr = it.fmr;
  plexes = λ k. placed_as (PlexMoves (AnyState v)) PlexStays (slice_get v.plexes k) (slice_get u.plexes k) (λ p q _ _ moves. plex_stays v p q moves) (it.plexes k);
}

-- Disks of which nothing is told as the group sees them: of the rack itself nothing is told, or it is not known what the disks hold, and then it was not
-- known before, or they might have disagreed.
pub record NoneKnown (told : Type 0) (note next : GroupNode) : Type 0 where
  pub before : KnowsNothing told note
  pub dark : told → next.dark ≡ true

pub none_known : (told : Type 0) (note next : GroupNode) (tells : Bool) → tells ≡ false → (told → next.dark ≡ false → tells ≡ true) → (next.dark ≡ note.dark) ⊎ ((next.dark ≡ true) × (note.loose ≡ true)) → NoneKnown told note next
none_known told note next tells none shown moves = by next.dark refl
  where
    before : next.dark ≡ true → (next.dark ≡ note.dark) ⊎ ((next.dark ≡ true) × (note.loose ≡ true)) → KnowsNothing told note
    before is (inl same) = inr (inr (sym same ∙ is))
    before is (inr (dark, loose)) = inr (inl loose)

    never : next.dark ≡ false → told → ⊥
    never bright yes_ = let e : true ≡ false = sym (shown yes_ bright) ∙ none in absurd (cc)

    by : (b : Bool) → next.dark ≡ b → NoneKnown told note next
    by true is = record { before = before is moves; dark = λ _. is }
    by false is = record { before = inl (never is); dark = λ yes_. absurd (never is yes_) }

-- as many disks of as many blocks as the site has
pub record SitsOn (n : Node) (m : Meaning) : Type 0 where
  pub units : m.units ≡ n.disks
  pub size : (u : ℕ) → u < n.disks → m.size u ≡ n.blocks

module _ {R : Type 0} {g : Ghosts R} where
  -- the note of a group that came up from these disks
  pub back_of : (told : Type 0) (dims : Bool) (s : ℕ) (n : Node) (note next : GroupNode) (old : Meaning) (e : GroupSite R g) (fails : Fails) → (IsKnown told next → IsTrue (site_disks e).tells) → SitsOn n old → (dims ≡ true → note.loose ≡ true)
      → NoteReturns (IsTrue (site_disks e).tells) (note_dimmed dims note) next → ConfigReturns (note_dimmed dims note) next old e
      → ((k : ℕ) → k < n.disks → Rose (old.disk_faults k) ((site_disks e).disk_faults k) → Contains fails (s, k)) → NotesBack told s n fails note next
  back_of told dims s n note next old e fails tells sits loose back config names = record {
    old = at_serial 0 config.was;
    now = at_serial 0 config.now;
    was = config_is note.config config.was config.noted.is config.noted.spells;
    is = config_is next.config config.now config.noted_now.is config.noted_now.spells;
    dark = dark_moves dims note next loose back.dark;
    volumes = λ yes_ v entry at.
        subst (λ (o : Option VolumeEntry). Matched VolumeStays o (slice_get config.now.volumes v)) at
        (placed_as (VolumeMoves AnyState) VolumeStays (slice_get config.was.volumes v) (slice_get config.now.volumes v) (λ x y _ _ moves. volume_stays x y moves)
        (config.change.volumes (tells yes_) v (slice_get_within config.was.volumes v entry at)));
    many = config.change.count ∙ sits.units;
    blocks = λ k disk at. config.change.blocks k disk at ∙ sits.size k (within k disk at);
    failed = λ k disk at is. names k (within k disk at) (config.change.failed k disk at is);
    begun = back.begun;
    loose = back.loose;
    size = λ v. config.sizes v;
    block = λ v b. back.block v b;
    may = λ yes_ v b low. back.may (tells yes_) v b low;
    opens = λ yes_ tight none v.
        placed_as (VolumeMoves (OpensMoves old (site_disks e))) (VolumeGoesBy (StateOpens s fails)) (slice_get config.was.volumes v) (slice_get config.now.volumes v)
        (λ x y _ _ moves. volume_goes (OpensMoves old (site_disks e)) (StateOpens s fails) fails (state_opens s n.disks fails old (site_disks e) named) x y moves) (config.opens (tells yes_) tight none v);
    parts = λ yes_ tight none. config.parts (tells yes_) tight none;
    one = λ yes_ tight none v b low. ones v b (config.one (tells yes_) tight none v b low);
    cut = back.cut;
    inside = back.inside;
  }
    where
      ones : (v b : ℕ) → (next.others v b ≡ []) ⊎ ((v < length config.was.volumes) × StopsClean config.was v) → (next.others v b ≡ []) ⊎ StoppedClean (at_serial 0 config.was) v
      ones v b (inl none) = inl none
      ones v b (inr clean) = inr (clean_to config.was v clean.1)

      named : Names s n.disks fails old (site_disks e)
      named = record { many = (let same = sits.units in omega (arith, same)); each = names }

      within : (k : ℕ) (disk : DiskEntry) → slice_get config.now.disks k ≡ Some disk → k < n.disks
      within k disk at = omega (arith, slice_get_within config.now.disks k disk at, config.change.count, sits.units)
