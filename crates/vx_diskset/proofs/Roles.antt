-- Whether the group of a site has the room in which updates wait.
use Rattle.std.proofs.Common.{◌≡◌, ◌∙◌, true, subst}
use Rattle.vx_model.specs.Sites.{is_origin}
use Rattle.vx_history.specs.World.{Node}
use Rattle.vx_disk.specs.declared.shelf.Shelf.{Ghosts}
use Rattle.vx_rvg.specs.declared.group.Rvg.{Rvg}
use Rattle.vx_secondary.specs.declared.secondary.Secondary.{Secondary}
use Rattle.vx_diskset.specs.Aboves.{above_in}
use Rattle.vx_diskset.specs.Stands.{KeepsRole, RoleBy, RoleIs}
use Rattle.vx_diskset.specs.declared.above.Above.{Above}
use Rattle.vx_diskset.specs.declared.above.Above.TheVariants.{Nothing, Origin, Receiver}
use Rattle.vx_diskset.specs.declared.disk_set.DiskSet.{DiskSet}
use Rattle.vx_diskset.specs.declared.disk_set.DiskSet.TheVariants.{Bare, Spoiled, Up, Receives, Down, OfGroup, Over, Gone}

above_origin : (n : Node) (a : Above) → is_origin n.role ≡ true → RoleBy n a
above_origin n Nothing origin = tt
above_origin n (Origin core) origin = origin
above_origin n (Receiver core waiting) origin = tt

above_like : (n k : Node) (a : Above) → is_origin k.role ≡ is_origin n.role → RoleBy n a → RoleBy k a
above_like n k Nothing same role = tt
above_like n k (Origin core) same role = same ∙ role
above_like n k (Receiver core waiting) same role = tt

module _ {R : Type 0} {g : Ghosts R} where
  -- an origin needs none
  pub role_origin : (n : Node) (e : DiskSet R g) → is_origin n.role ≡ true → RoleIs n e
  role_origin n (Bare rack) origin = tt
  role_origin n (Spoiled rack) origin = tt
  role_origin n (Up rvg) origin = origin
  role_origin n (Receives s) origin = tt
  role_origin n (Down rack) origin = tt
  role_origin n (OfGroup s) origin = tt
  role_origin n (Over s) origin = above_origin n (above_in s) origin
  role_origin n Gone origin = tt

  -- it goes by the kind of the role alone
  pub role_like : (n k : Node) (e : DiskSet R g) → is_origin k.role ≡ is_origin n.role → RoleIs n e → RoleIs k e
  role_like n k (Bare rack) same role = tt
  role_like n k (Spoiled rack) same role = tt
  role_like n k (Up rvg) same role = same ∙ role
  role_like n k (Receives s) same role = tt
  role_like n k (Down rack) same role = tt
  role_like n k (OfGroup s) same role = tt
  role_like n k (Over s) same role = above_like n k (above_in s) same role
  role_like n k Gone same role = tt

  pub role_same : (e : DiskSet R g) → KeepsRole e e
  role_same e = record { kept = λ n role. role }

  pub role_then : (a b c : DiskSet R g) → KeepsRole a b → KeepsRole b c → KeepsRole a c
  role_then a b c one two = record { kept = λ n role. two.kept n (one.kept n role) }

  -- a group stays one without that room, and one with it stays so
  pub role_up : (old : DiskSet R g) (v w : Rvg R g) → old ≡ Up v → KeepsRole old (Up w)
  role_up old v w is = record { kept = λ n role. subst (λ (e : DiskSet R g). RoleIs n e) is role }

  pub role_receives : (old : DiskSet R g) (s : Secondary R g) → KeepsRole old (Receives s)
  role_receives old s = record { kept = λ n role. tt }

  pub role_down : (old : DiskSet R g) (rack : R) → KeepsRole old (Down rack)
  role_down old rack = record { kept = λ n role. tt }
