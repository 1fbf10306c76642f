-- What calls on the group below a replicated volume group answer, where they work on no volume of that one, and what they leave of the site.
use Rattle.std.specs.Prelude.{◌≡◌, ◌||◌, ℕ, Bool, true, false, List, [], ◌∷◌, Some, None, Result, Ok, Err, IfOk, IsTrue, OnOk, length}
use Rattle.vx_model.specs.declared.errors.Stop.{Stop}
use Rattle.vx_model.specs.declared.errors.Stop.TheVariants.{No as Refused, OutOfMemory}
use Rattle.vx_model.specs.declared.no.No.{No}
use Rattle.vx_model.specs.declared.no.No.TheVariants.{Device, Down as IsOff}
use Rattle.vx_model.specs.declared.units.Units.{Units}
use Rattle.vx_disk.specs.Counts.{Rose}
use Rattle.vx_disk.specs.declared.shelf.Shelf.{Ghosts}
use Rattle.vx_config.specs.declared.config.Config.{Config}
use Rattle.vx_history.specs.Groups.{GroupNode, NoteSettles, NoteUnsettles}
use Rattle.vx_history.specs.Steps.{crashed, worked}
use Rattle.vx_history.specs.Stops.{IsFused}
use Rattle.vx_history.specs.World.{Node}
use Rattle.vx_events.specs.RvgFits.{entries_noted, rvg_noted}
use Rattle.vx_grouped.specs.ConfigMoves.{AttCuts, AttDone, AttFails, DetCuts, DetDone, DetFails}
use Rattle.vx_grouped.specs.GroupSites.{DownNoted, FitsPlain, UpNoted, site_disks, with_note}
use Rattle.vx_grouped.specs.SiteEnds.{ConfigGoes, PlainRead, RegionsOf, is_plex_on, refuses_att, refuses_det}
use Rattle.vx_grouped.specs.SiteMaps.{AttMapped, DetMapped}
use Rattle.vx_grouped.specs.declared.group_site.GroupSite.{GroupSite}
use Rattle.vx_diskset.specs.Aboves.{site_in}
use Rattle.vx_diskset.specs.Noted.{RestsNamed}
use Rattle.vx_diskset.specs.OverKeeps.{KeepsOver}
use Rattle.vx_diskset.specs.declared.disk_set.DiskSet.{DiskSet}
use Rattle.vx_diskset.specs.declared.disk_set.DiskSet.TheVariants.{Over}
use Rattle.vx_diskset.specs.declared.over_set.OverSet.{OverSet}

-- a configuration is begun
abbrev pub any_begun : List (List ℕ) → Bool
any_begun [] = false
any_begun (x ∷ xs) = true

-- The note behind a call on the group: while a configuration is begun imports may disagree.
abbrev pub note_tidied : GroupNode → GroupNode
note_tidied note = record note { loose = any_begun note.begun || note.loose }

module _ {R : Type 0} {g : Ghosts R} where
  -- A call that writes to no volume: each has what it had. Done, failed, or cut by the fuse, the configuration changes so; behind a fuse that ran out each that an import
  -- may find names the replicated volume group that is noted. A refusal but 6 and 7 has this reason, and has changed nothing; and memory suffices.
  abbrev pub CalledBelow : {T : Type 0} → (twice : Bool) → (Done Fails Cuts : Config → Config → Type 0) → (No → Type 0) → Node → GroupNode → GroupSite R g → GroupSite R g → Result T Stop → Type 0
  CalledBelow twice Done Fails Cuts Lacks n note old new (Ok done) = (next : GroupNode) × NoteSettles note next × UpNoted (with_note (note_tidied next) n) (note_tidied next) new × ConfigGoes Done note next old new
  CalledBelow twice Done Fails Cuts Lacks n note old new (Err (Refused (Device disk))) =
      (next : GroupNode) × NoteUnsettles twice note next × UpNoted (with_note (note_tidied next) n) (note_tidied next) new × Rose ((site_disks old).disk_faults disk) ((site_disks new).disk_faults disk) × ConfigGoes Fails note next old new
  CalledBelow twice Done Fails Cuts Lacks n note old new (Err (Refused IsOff)) =
      (next : GroupNode) × NoteUnsettles twice note next × DownNoted (crashed (with_note (note_tidied next) n) 0) (note_tidied next) new × IsFused n.fuse × ConfigGoes Cuts note next old new
      × ((units : Units) → rvg_noted next ≡ Some units → RestsNamed units (length (entries_noted next)) new)
  CalledBelow twice Done Fails Cuts Lacks n note old new (Err (Refused other)) = UpNoted (worked n) note new × Lacks other
  CalledBelow twice Done Fails Cuts Lacks n note old new (Err OutOfMemory) = ⊥

  -- a plex that is detached, and one that is attached
  abbrev pub DetBelow : Node → GroupNode → ℕ → ℕ → GroupSite R g → GroupSite R g → Result (Unit {0}) Stop → Type 0
  DetBelow n note vol plex old new r =
      CalledBelow {T = Unit {0}} false (DetDone vol plex (site_disks old) (site_disks new)) (DetFails (site_disks old) (site_disks new)) (DetCuts vol plex (site_disks old) (site_disks new)) (λ which. refuses_det old vol plex ≡ Some which) n note old new r

  abbrev pub AttBelow : Node → GroupNode → ℕ → ℕ → GroupSite R g → GroupSite R g → Result ℕ Stop → Type 0
  AttBelow n note vol plex old new r =
      CalledBelow {T = ℕ} true (AttDone vol plex (site_disks old) (site_disks new)) (AttFails vol plex (site_disks old) (site_disks new)) (AttCuts vol plex (site_disks old) (site_disks new)) (λ which. refuses_att old vol plex ≡ Some which) n note old new r

  -- of a site: what stood over the group stands, or the site crashed
  pub record DetsBelow (vol plex : ℕ) (r : Result (Unit {0}) Stop) (old new : OverSet R g) : Type 0 where
    pub called : (n : Node) (note : GroupNode) → UpNoted n note (site_in old) → DetBelow n note vol plex (site_in old) (site_in new) r
    pub maps : (n : Node) (note : GroupNode) → UpNoted n note (site_in old) → DetMapped vol plex (site_in old) (site_in new) r
    pub refused : (n : Node) (note : GroupNode) (no : No) → UpNoted n note (site_in old) → refuses_det (site_in old) vol plex ≡ Some no → r ≡ Err (Refused no)
    pub cut : new.cut ≡ old.cut
    pub kept : KeepsOver old new

  pub record AttsBelow (vol plex : ℕ) (r : Result ℕ Stop) (old new : OverSet R g) : Type 0 where
    pub called : (n : Node) (note : GroupNode) → UpNoted n note (site_in old) → AttBelow n note vol plex (site_in old) (site_in new) r
    pub maps : (n : Node) (note : GroupNode) → UpNoted n note (site_in old) → AttMapped vol plex (site_in old) (site_in new) r
    pub refused : (n : Node) (note : GroupNode) (no : No) → UpNoted n note (site_in old) → refuses_att (site_in old) vol plex ≡ Some no → r ≡ Err (Refused no)
    pub already : (n : Node) (note : GroupNode) → UpNoted n note (site_in old) → refuses_att (site_in old) vol plex ≡ None → IsTrue (is_plex_on (site_in old) vol plex) → r ≡ Ok 0
    pub count : is_plex_on (site_in old) vol plex ≡ false → IfOk r (λ k. RegionsOf (site_in old) vol k)
    pub on : is_plex_on (site_in old) vol plex ≡ false → OnOk r (IsTrue (is_plex_on (site_in new) vol plex))
    pub cut : new.cut ≡ old.cut
    pub kept : KeepsOver old new

  -- a read of so many bytes of a volume of the group, of which this is read: what stood over the group stands
  pub record ReadsBelow (volume start size : ℕ) (into : List ℕ) (r : Result (Unit {0}) No) (old new : OverSet R g) : Type 0 where
    pub read : (n : Node) (note : GroupNode) → UpNoted n note (site_in old) → FitsPlain note volume start size → PlainRead n note volume start into (site_in old) (site_in new) r
    pub cut : new.cut ≡ old.cut
    pub kept : KeepsOver old new

  -- so it is of the disks of a site; of those that have no replicated volume group over a group nothing is said
  abbrev pub OnOver : (OverSet R g → OverSet R g → Type 0) → DiskSet R g → DiskSet R g → Type 0
  OnOver P (Over old) (Over new) = P old new
  OnOver P (Over old) other = ⊥
  OnOver P old new = Unit {0}
