-- What the start of a bare site comes to.
use Rattle.std.proofs.Common.{◌≡◌, ◌∙◌, ◌+◌, ◌≤◌, ℕ, List, take, ap, sym, subst, refl, arith, IsTrue}
use Rattle.std.specs.Prelude.{None, IsFalse, slice_index, Result, Ok, Err}
use Rattle.std.proofs.lemmas.List.{get_or-take}
use Rattle.vx_wire.specs.Numbers.{be_bytes}
use Rattle.vx_model.specs.Content.{zero_block}
use Rattle.vx_history.specs.Steps.{raw_set}
use Rattle.vx_model.specs.Sizes.{ring_of}
use Rattle.vx_history.specs.World.{Node}
use Rattle.vx_model.specs.declared.no.No.{No}
use Rattle.vx_model.specs.declared.no.No.TheVariants.{Device, NoConfig, Down as IsOff}
use Rattle.vx_model.specs.declared.errors.Stop.{Stop}
use Rattle.vx_model.specs.declared.errors.Stop.TheVariants.{No as Refused, OutOfMemory}
use Rattle.vx_model.specs.declared.units.Units.{Units}
use Rattle.vx_srlfmt.specs.Headers.{header_magic}
use Rattle.vx_srlfmt.specs.Kinds.{Top}
use Rattle.vx_srlfmt.specs.declared.header.Header.{Header}
use Rattle.vx_srlfmt.proofs.HeaderAgain.{begins_header}
use Rattle.vx_diskset.specs.Holds.{KeptBeside}
use Rattle.vx_disk.specs.Counts.{Rose}
use Rattle.vx_disk.specs.Moves.{Moves, Run}
use Rattle.vx_disk.specs.Racks.{Alike, Stopped}
use Rattle.vx_disk.specs.Shelf.{Meaning, Keeps, Lawful, Goes, Nothing}
use Rattle.vx_disk.specs.declared.shelf.Shelf.{Ghosts}
use Rattle.vx_ringio.specs.Classes.{class_of}
use Rattle.vx_ringio.specs.Reading.{IsTopSeen, SeesTop}
use Rattle.vx_ringio.specs.declared.top.TopSeen.{TopSeen}
use Rattle.vx_ringio.specs.declared.top.TopSeen.TheVariants as top
use Rattle.vx_ringio.proofs.Classing.{top_class}
use Rattle.vx_disk.specs.Causes.{DeviceCause}
use Rattle.vx_rvg.specs.Starts.{IsStarted, Starting, StartCause, ring_in}
use Rattle.vx_rvg.specs.Views.{Core, last_of}
use Rattle.vx_rvg.specs.declared.group.Rvg.{Rvg}
use Rattle.vx_diskset.specs.declared.disk_set.DiskSet.{DiskSet}
use Rattle.vx_diskset.specs.declared.disk_set.DiskSet.TheVariants.{Bare, Spoiled, Up}
use Rattle.vx_diskset.specs.DiskSets.{BareUp, BareUpIs, MadeIs}
use Rattle.vx_events.specs.Found.{SameDisks}
use Rattle.vx_diskset.specs.Fuses.{FuseOn}
use Rattle.vx_diskset.specs.Layouts.{raw_units, CanBeRaw}
use Rattle.vx_diskset.proofs.Laying.{raw_lies, raw_on, units_raw}
use Rattle.vx_diskset.specs.Stands.{IsCleanAt, IsUpAt, faults_at}
use Rattle.vx_diskset.proofs.MakeGroup.{bare_still, keeps_still}
use Rattle.vx_diskset.proofs.BesideLemmas.{never_besides}
use Rattle.vx_diskset.proofs.StartGroup.{found_site}
use Rattle.vx_diskset.proofs.NeedLemmas.{ins_length, stand_ins, takes_ins}
use Rattle.vx_diskset.proofs.MakeRoom.{rose_later}
use Rattle.vx_diskset.proofs.StaysUp.{not_true, never_both, told_now}
use Rattle.vx_diskset.proofs.RawSets.{raw_alone}

-- ---- a block of zeros is no header

not_begun : take 8 zero_block ≡ be_bytes 8 header_magic → ⊥
unfolding be_bytes
not_begun begins =
    let first : slice_index (take 8 zero_block) 0 ≡ slice_index zero_block 0 = get_or-take 8 zero_block 0 0 (omega arith) in
    let zero : slice_index zero_block 0 ≡ 0 = refl in
    let letter : slice_index (be_bytes 8 header_magic) 0 ≡ 0x56 = refl in
    let same : slice_index (take 8 zero_block) 0 ≡ slice_index (be_bytes 8 header_magic) 0 = ap (λ (b : List ℕ). slice_index b 0) begins in
    absurd (omega (arith, first, zero, same, letter))

zero_top : (ring : ℕ) (h : Header) → class_of ring zero_block ≡ Top h → ⊥
zero_top ring h is = not_begun (begins_header zero_block h (top_class ring zero_block h is))

pub zeros_seen : (ring b : ℕ) (m : Meaning) (seen : TopSeen) → Lawful m → Keeps m 0 b zero_block → SeesTop 0 ring b m seen → IsTopSeen ring zero_block seen
zeros_seen ring b m seen lawful keeps sees = subst (λ (v : List ℕ). IsTopSeen ring v seen) (keeps.only sees.bytes (lawful.shown 0 b sees.bytes sees.read)) sees.is

pub never_valid : (ring : ℕ) (h : Header) → IsTopSeen ring zero_block (top.Valid h) → ⊥
never_valid ring h is = zero_top ring h is

pub never_broken : (ring : ℕ) (stored computed : List ℕ) → IsTopSeen ring zero_block (top.Broken stored computed) → ⊥
never_broken ring stored computed is = not_begun is.1.begins

-- ---- the disks of a bare site

pub clean_read : (n : Node) (m new : Meaning) → Goes Nothing m new → IsCleanAt n m → IsCleanAt n new
clean_read n m new goes clean =
    let unarmed : IsFalse new.armed = goes.unarmed clean.bare.unarmed in
    let up : IsFalse new.down = not_true new.down (λ down. never_both m.down (goes.safe clean.bare.unarmed down) clean.bare.fitted.up) in
    record {
      bare = bare_still n m new goes (up ∙ sym clean.bare.fitted.up) (unarmed ∙ sym clean.bare.unarmed) clean.bare;
      front = λ b below. keeps_still m new 0 b zero_block goes (clean.front b below);
    }

-- of contents that are not told nothing is said
pub clean_untold : (n : Node) (m last : Meaning) → Lawful last → (IsTrue last.tells → ⊥) → IsCleanAt n m → last.units ≡ m.units → ((u : ℕ) → last.size u ≡ m.size u) → IsFalse last.down → IsFalse last.armed → IsCleanAt n last
clean_untold n m last lawful untold clean units size up unarmed = record {
  bare = record {
    is = clean.bare.is;
    fitted = record { units = units ∙ clean.bare.fitted.units; size = λ u there. size u ∙ clean.bare.fitted.size u there; up = up };
    unarmed = unarmed;
    few = clean.bare.few;
    some = clean.bare.some;
    blank = λ u b some past below. none u b;
  };
  front = λ b below. none 0 b;
}
  where
    none : (u b : ℕ) → Keeps last u b zero_block
    none u b = record { only = λ v left. absurd (lawful.none (not_true last.tells untold) u b v left) }

abbrev pub found_bare : Node → Core → Node
found_bare n core = found_site (raw_set 0 n) core.log.header.state core.log.header.incarnation (last_of core) (stand_ins core.log)

-- a raw set that a start found on them
module _ (n : Node) (m up new : Meaning) (core : Core) (clean : IsCleanAt n m) (can : CanBeRaw n.disks n.blocks) (goes : Goes Nothing m up) (after : Lawful new) (untold : IsTrue new.tells → ⊥)
    (started : IsStarted (raw_units n.disks) up core new) (moves : Moves (Run (raw_units n.disks).srl 0 (ring_in (raw_units n.disks) up + 2)) (Starting (raw_units n.disks) up) up new)
    (still : IsTrue new.down → ⊥) where
  ring_here : ring_in (raw_units n.disks) up ≡ ring_of n.blocks
  ring_here = ap ring_of (goes.size 0 ∙ clean.bare.fitted.size 0 (omega (arith, can.some)))

  pub found_same : SameDisks (raw_set 0 n) (found_bare n core)
  found_same = record { name = refl; disks = refl; blocks = refl; volumes = refl; up = refl; running = refl; failing = refl; fuse = refl; group = refl }

  pub found_up : (beside : KeptBeside) → beside.doubt ≡ None → IsUpAt beside (found_bare n core) core new
  found_up beside sure = record {
    state = refl;
    up = not_true new.down still;
    lies = raw_on (found_bare n core) new (ap (λ (k : Node). k.group) clean.bare.is) (raw_lies n.disks n.blocks new can clean.bare.few clean.bare.some (moves.units ∙ goes.units ∙ clean.bare.fitted.units) (λ u there. moves.size u ∙ goes.size u ∙ clean.bare.fitted.size u there));
    fuse = subst (λ (k : Node). FuseOn k.fuse new) (sym clean.bare.is) (moves.unarmed (goes.unarmed clean.bare.unarmed));
    units = started.units_are ∙ sym (units_raw (found_bare n core) (ap (λ (k : Node). k.group) clean.bare.is));
    ring = started.ring_is ∙ ring_here;
    low = ap (λ (k : Node). k.low) clean.bare.is;
    found = core.log.header.state.links;
    kept = refl;
    linked = λ told. absurd (untold told);
    session = refl;
    begun = λ told. absurd (untold told);
    stamp = λ told none. absurd (untold told);
    fresh = λ origin told none one room. absurd (untold told);
    first = omega (arith, started.applied);
    head = refl;
    halted = started.running;
    logged = omega (arith, ins_length core.log, started.applied);
    durable = λ _. omega (arith, ins_length core.log, started.applied);
    takes = λ _. takes_ins core.log (omega (arith, started.applied));
    content = λ none told. absurd (untold told);
    left = λ i now. absurd (untold (told_now new i after now));
    sure = λ none. sure;
    may = never_besides beside.doubt new sure;
  }

rose_wide : (a b c d : ℕ) → a ≤ b → Rose b c → d ≡ c → Rose a d
rose_wide a b c d le rose same = subst (λ (k : ℕ). Rose a k) (sym same) (rose_later a b c le rose)

-- a disk that failed in a start, behind reads and before a crash
pub start_rose : (units : Units) (m up back crash last : Meaning) (why : No) → Goes Nothing m up → StartCause units up back why → Stopped back crash → Alike crash last
    → (disk : ℕ) → why ≡ Device disk → Rose (m.disk_faults disk) (last.disk_faults disk)
start_rose units m up back crash last why goes cause stopped alike disk is =
    rose_wide (m.disk_faults disk) (up.disk_faults disk) (back.disk_faults disk) (last.disk_faults disk) (goes.disk_faults disk)
    (subst (λ (k : No). StartCause units up back k) is cause) (alike.counts.disk_faults disk ∙ stopped.counts.disk_faults disk)

-- ---- the same of disk sets

module _ {R : Type 0} {g : Ghosts R} where
  pub bare_came : (n : Node) (d : ℕ) (units : Units) (m : Meaning) (up : R) (rvg : Rvg R g) → units ≡ raw_units d → d ≡ m.units → IsCleanAt n m → CanBeRaw n.disks n.blocks → Goes Nothing m (g.meaning up)
      → Lawful (g.meaning rvg.shelf) → (IsTrue (g.meaning rvg.shelf).tells → ⊥) → IsStarted units (g.meaning up) rvg.core (g.meaning rvg.shelf)
      → Moves (Run units.srl 0 (ring_in units (g.meaning up) + 2)) (Starting units (g.meaning up)) (g.meaning up) (g.meaning rvg.shelf) → (IsTrue (g.meaning rvg.shelf).down → ⊥) → BareUp n (Up rvg)
  bare_came n d units m up rvg is d_is clean some goes after untold started moves still =
      let same : units ≡ raw_units n.disks = is ∙ ap raw_units (d_is ∙ clean.bare.fitted.units) in
      let started' = subst (λ (u : Units). IsStarted u (g.meaning up) rvg.core (g.meaning rvg.shelf)) same started in
      let moves' = subst (λ (u : Units). Moves (Run u.srl 0 (ring_in u (g.meaning up) + 2)) (Starting u (g.meaning up)) (g.meaning up) (g.meaning rvg.shelf)) same moves in
      record {
        untold = untold;
        node = found_bare n rvg.core;
        same = found_same n m (g.meaning up) (g.meaning rvg.shelf) rvg.core clean some goes after untold started' moves' still;
        whole = omega (arith, ins_length rvg.core.log, started'.applied);
        stands = λ beside sure. (
          raw_alone beside (found_bare n rvg.core) sure (ap (λ (k : Node). k.group) clean.bare.is),
          found_up n m (g.meaning up) (g.meaning rvg.shelf) rvg.core clean some goes after untold started' moves' still beside sure,
        );
      }

  -- a start that was refused, where contents are not told
  pub bare_refused : (n : Node) (old : DiskSet R g) (rack : R) (last : R) (why : No) → old ≡ Bare rack → IsCleanAt n (g.meaning last) → (IsTrue (g.meaning last).tells → ⊥)
      → ((disk : ℕ) → why ≡ Device disk → Rose ((g.meaning rack).disk_faults disk) ((g.meaning last).disk_faults disk)) → BareUpIs n old (Bare last) (Err why)
  bare_refused n old rack last (Device disk) is clean untold rose = ((λ beside. clean), subst (λ (e : DiskSet R g). Rose (faults_at e disk) ((g.meaning last).disk_faults disk)) (sym is) (rose disk refl))
  bare_refused n old rack last NoConfig is clean untold rose = λ beside. clean
  bare_refused n old rack last other is clean untold rose = (untold, λ beside. clean)

  -- a header that could not be read
  pub bare_unread : (n : Node) (old : DiskSet R g) (rack : R) (last : R) (why : No) → old ≡ Bare rack → IsCleanAt n (g.meaning last) → DeviceCause (g.meaning rack) (g.meaning last) why → BareUpIs n old (Bare last) (Err why)
  bare_unread n old rack last (Device disk) is clean cause = ((λ beside. clean), subst (λ (e : DiskSet R g). Rose (faults_at e disk) ((g.meaning last).disk_faults disk)) (sym is) cause)
  bare_unread n old rack last IsOff is clean cause = absurd (never_both (g.meaning last).down cause clean.bare.fitted.up)
  bare_unread n old rack last other is clean cause = absurd cause

  -- what was made of a site that is bare, whichever of the two it is
  pub made_bare : (site : ℕ) (n : Node) (rack : R) (new : DiskSet R g) (result : Result (Unit {0}) Stop) → MadeIs site n (Spoiled rack) new result → MadeIs site n (Bare rack) new result
  made_bare site n rack new (Ok done) is = is
  made_bare site n rack new (Err OutOfMemory) is = is
  made_bare site n rack new (Err (Refused (Device disk))) is = is
  made_bare site n rack new (Err (Refused other)) is = is
