-- What the test of a group of disks without a replicated volume group tells.
use Rattle.std.proofs.Common.{◌≡◌, List, [], ◌∷◌, length, true, refl, arith}
use Rattle.std.specs.Prelude.{◌&&◌, eqb}
use Rattle.std.proofs.lemmas.Bool.Decides.{nat_tests}
use Rattle.vx_history.proofs.Updates.{and_left, and_right}
use Rattle.vx_history.specs.Events.{is_plain_group}
use Rattle.vx_history.specs.Refusals.{is_empty, is_primary}
use Rattle.vx_history.specs.World.{Node}
use Rattle.vx_model.specs.declared.site.Role.{Role}
use Rattle.vx_model.specs.declared.site.Role.TheVariants.{Primary, Secondary, Handing, Bunker}

pub primary_is : (r : Role) → is_primary r ≡ true → r ≡ Primary
primary_is Primary e = refl
primary_is Secondary e = absurd (cc)
primary_is (Handing to) e = absurd (cc)
primary_is Bunker e = absurd (cc)

none_is : {A : Type 0} (xs : List A) → eqb (length xs) 0 ≡ true → xs ≡ []
none_is [] e = refl
none_is (x ∷ xs) e = absurd (grind (arith, nat_tests))

-- it is a primary without volumes and without a log
pub group_facts : (n : Node) → is_plain_group n ≡ true → (n.role ≡ Primary) × (n.volumes ≡ []) × (n.log ≡ [])
group_facts n e =
    let rest : (eqb (length n.volumes) 0 && is_empty n.log) ≡ true = and_right (is_primary n.role) (eqb (length n.volumes) 0 && is_empty n.log) e in (
      primary_is n.role (and_left (is_primary n.role) (eqb (length n.volumes) 0 && is_empty n.log) e),
      none_is n.volumes (and_left (eqb (length n.volumes) 0) (is_empty n.log) rest),
      none_is n.log (and_right (eqb (length n.volumes) 0) (is_empty n.log) rest),
    )

-- and a primary of that kind passes the test
pub group_passes : (n : Node) → n.role ≡ Primary → n.volumes ≡ [] → n.log ≡ [] → is_plain_group n ≡ true
group_passes n role volumes log = rw role (rw volumes (rw log refl))
