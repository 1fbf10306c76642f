-- The disks of a site that is on no group, or on one.
use Rattle.std.proofs.Common.{◌≡◌, ◌∙◌, ◌+◌, ap, refl, sym, subst, ℕ, arith}
use Rattle.std.specs.Prelude.{None, Some}
use Rattle.vx_disk.specs.declared.shelf.Shelf.{Ghosts}
use Rattle.vx_history.specs.World.{Node}
use Rattle.vx_events.proofs.Places.{some_same}
use Rattle.vx_rvg.specs.declared.group.Rvg.{Rvg}
use Rattle.vx_secondary.specs.declared.secondary.Secondary.{Secondary}
use Rattle.vx_diskset.specs.Holds.{KeptBeside, KeptSite, sure_of}
use Rattle.vx_diskset.specs.DiskSets.{halted_at}
use Rattle.vx_diskset.specs.Keeps.{doubting, restated}
use Rattle.vx_model.specs.Sites.{is_origin}
use Rattle.vx_model.specs.declared.site.Role.{Role}
use Rattle.vx_model.specs.declared.state.State.{State}
use Rattle.vx_diskset.specs.Stands.{CutAt, IsHeldAt, IsOverSite, IsUngrouped, IsReceiverAt, IsUpAt, SiteStands}
use Rattle.vx_diskset.specs.declared.disk_set.DiskSet.{DiskSet}
use Rattle.vx_diskset.specs.declared.disk_set.DiskSet.TheVariants.{Up, Receives}

-- one that is what its node says
pub raw_sure : (k : KeptSite) (n : Node) → n.group ≡ None → IsUngrouped (sure_of k) n
raw_sure k n none = (none, λ x is. absurd (never is))
  where
    never : {A : Type 0} {x : A} → None ≡ Some x → ⊥
    never e = cc

pub raw_alone : (beside : KeptBeside) (n : Node) → beside.doubt ≡ None → n.group ≡ None → IsUngrouped beside n
raw_alone beside n sure none = (none, λ x is. absurd (never (sym sure ∙ is)))
  where
    never : {A : Type 0} {x : A} → None ≡ Some x → ⊥
    never e = cc

-- one that may be this besides
pub raw_doubted : (k : KeptSite) (n : Node) → n.group ≡ None → k.node.group ≡ n.group → (x : KeptSite) → Some k ≡ Some x → x.node.group ≡ None
raw_doubted k n none same x is = sym (ap (λ (y : KeptSite). y.node.group) (some_same is)) ∙ (same ∙ none)

pub raw_doubting : (beside : KeptBeside) (n : Node) (s : State) (disk : ℕ) → n.group ≡ None → IsUngrouped (doubting beside n s disk) (halted_at n disk)
raw_doubting beside n s disk none = (none, raw_doubted (record { node = halted_at (restated n s) disk; links = s.links; headers = beside.headers + 1 }) n none refl)

-- ---- the same of one that is on a group

-- what else a node has does not count
pub over_on : (beside : KeptBeside) (n k : Node) → k.group ≡ n.group → k.disks ≡ n.disks → k.blocks ≡ n.blocks → k.role ≡ n.role → IsOverSite beside n → IsOverSite beside k
over_on beside n k group disks blocks role over = (
  (λ none. over.0 (sym group ∙ none)),
  over.1,
  (let few = over.2 in omega (arith, few, disks)),
  (let some = over.3 in omega (arith, some, blocks)),
  over.4,
  ap (λ (r : Role). is_origin r) role ∙ over.5,
)

-- ---- disk sets

module _ {R : Type 0} {g : Ghosts R} where
  pub up_there : (beside : KeptBeside) (n : Node) (e : DiskSet R g) (rvg : Rvg R g) → e ≡ Up rvg → SiteStands beside n e → IsUngrouped beside n × IsUpAt beside n rvg.core (g.meaning rvg.shelf)
  up_there beside n e rvg is stands = subst (λ (x : DiskSet R g). SiteStands beside n x) is stands

  pub receiver_there : (beside : KeptBeside) (n : Node) (e : DiskSet R g) (s : Secondary R g) → e ≡ Receives s → SiteStands beside n e → IsUngrouped beside n × IsReceiverAt beside n s.rvg.core s.waiting (g.meaning s.rvg.shelf)
  receiver_there beside n e s is stands = subst (λ (x : DiskSet R g). SiteStands beside n x) is stands

  pub cut_there : (beside : KeptBeside) (n : Node) (e : DiskSet R g) (rvg : Rvg R g) → e ≡ Up rvg → CutAt beside n e → IsUngrouped beside n × IsHeldAt beside n (g.meaning rvg.shelf)
  cut_there beside n e rvg is cut = subst (λ (x : DiskSet R g). CutAt beside n x) is cut

  pub cut_received : (beside : KeptBeside) (n : Node) (e : DiskSet R g) (s : Secondary R g) → e ≡ Receives s → CutAt beside n e → IsUngrouped beside n × IsHeldAt beside n (g.meaning s.rvg.shelf)
  cut_received beside n e s is cut = subst (λ (x : DiskSet R g). CutAt beside n x) is cut
