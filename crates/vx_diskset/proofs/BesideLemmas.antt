-- What the disks of a site may hold of it besides, past calls.
use Rattle.std.proofs.Common.{◌≡◌, ◌∙◌, inl, inr, ⊎_elim, ℕ, ◌≤◌, length, refl, subst, sym}
use Rattle.std.specs.Prelude.{Option, Some, None}
use Rattle.vx_history.specs.World.{Node}
use Rattle.vx_history.specs.Steps.{crashed}
use Rattle.vx_disk.specs.Shelf.{Meaning, Image}
use Rattle.vx_disk.specs.declared.shelf.Shelf.{Ghosts}
use Rattle.vx_diskset.specs.declared.disk_set.DiskSet.{DiskSet}
use Rattle.vx_diskset.specs.DiskSets.{CrashedAt, fell_to}
use Rattle.vx_diskset.specs.Holds.{KeptBeside, HasDoubted, HasSite, HasWrites, KeptSite, MayBe, site_alone, itself, sure_of}
use Rattle.vx_diskset.specs.Stands.{StandsAlone, SiteStands}
use Rattle.vx_diskset.proofs.Laying.{lies_as}

-- what an image has of a site it has of one that looks the same to it
pub site_map : {beside : KeptBeside} (n k : Node) (i : Image) → (HasWrites beside n i → HasWrites beside k i) → HasSite beside n i → HasSite beside k i
site_map n k i same has = ⊎_elim (λ one. inl (same one)) (λ other. inr other) has

-- what it may be besides lies on the disks past calls that leave their number and sizes alone
pub may_same : (k : KeptSite) (m new : Meaning) → new.units ≡ m.units → ((u : ℕ) → new.size u ≡ m.size u) → new.tells ≡ m.tells → MayBe k m → MayBe k new
may_same k m new units size tells may = record {
  state = may.state;
  lies = lies_as k.node m new units size may.lies;
  low = may.low;
  logged = may.logged;
  begun = λ told. may.begun (sym tells ∙ told);
}

-- of a site that is what its node says there is nothing besides
pub never_besides : (o : Option KeptSite) (m : Meaning) → o ≡ None → (k : KeptSite) → o ≡ Some k → MayBe k m
never_besides o m none k some = absurd (never (sym none ∙ some))
  where
    never : {A : Type 0} {x : A} → None ≡ Some x → ⊥
    never e = cc

pub doubted : (o : Option KeptSite) (i : Image) → HasDoubted o i → (k : KeptSite) × (o ≡ Some k) × HasWrites (sure_of k) k.node i
doubted None i has = absurd has
doubted (Some k) i has = (k, refl, has)

-- a site that runs is what its node says
pub site_sure : {beside : KeptBeside} (n : Node) (i : Image) → beside.doubt ≡ None → HasSite beside n i → HasWrites beside n i
site_sure {beside} n i sure has = ⊎_elim (λ one. one) (λ other. let d = doubted beside.doubt i other in absurd (never (sym sure ∙ d.1))) has
  where
    never : {A : Type 0} {x : A} → None ≡ Some x → ⊥
    never e = cc

pub writes_itself : {beside : KeptBeside} (n : Node) (i : Image) → HasWrites beside n i → HasWrites (sure_of (itself beside n)) n i
writes_itself n i has = record { count = has.count; least = has.least; most = has.most; found = has.found }

-- ---- a site without links

-- a site without links that crashed
pub record FellAlone {R : Type 0} {g : Ghosts R} (n : Node) (new : DiskSet R g) : Type 0 where
  pub count : ℕ
  pub least : n.safe ≤ count
  pub most : count ≤ length n.log
  pub stands : StandsAlone (crashed n count) new

module _ {R : Type 0} {g : Ghosts R} where
  pub fell_alone : (n : Node) (new : DiskSet R g) → CrashedAt site_alone n new → FellAlone n new
  fell_alone n new fell = ⊎_elim (λ own. by fell.kept own fell.count fell.least fell.most fell.stands) (λ other. absurd (never other)) fell.is
    where
      never : {A : Type 0} {x : A} → None ≡ Some x → ⊥
      never e = cc

      by : (k : KeptSite) → k ≡ itself site_alone n → (count : ℕ) → k.node.safe ≤ count → count ≤ length k.node.log → SiteStands (sure_of k) (fell_to n k.node count) new → FellAlone n new
      by k is = subst (λ (x : KeptSite). (count : ℕ) → x.node.safe ≤ count → count ≤ length x.node.log → SiteStands (sure_of x) (fell_to n x.node count) new → FellAlone n new) (sym is)
          (λ count least most stands. record { count = count; least = least; most = most; stands = stands })
