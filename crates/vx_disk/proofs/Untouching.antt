-- Disks of which a call touches none.
use Rattle.std.proofs.Common.{◌∙◌, None, Option, Some, refl}
use Rattle.vx_disk.specs.Causes.{OnDisks}
use Rattle.vx_disk.specs.Disks.{Disks, Untouched}

pub untouched_twice : (a b c : Disks) → Untouched a b → Untouched b c → Untouched a c
untouched_twice a b c one two = record {
  blocks = record {
    stable = λ u k. two.blocks.stable u k ∙ one.blocks.stable u k;
    latest = λ u k. two.blocks.latest u k ∙ one.blocks.latest u k;
    loose = λ u k. two.blocks.loose u k ∙ one.blocks.loose u k;
  };
  fuse = two.fuse ∙ one.fuse;
}

pub untouched_both : (a b c : Option Disks) → OnDisks a b Untouched → OnDisks b c Untouched → OnDisks a c Untouched
untouched_both None None None one two = tt
untouched_both None None (Some c) one two = absurd two
untouched_both None (Some b) c one two = absurd one
untouched_both (Some a) None c one two = absurd one
untouched_both (Some a) (Some b) None one two = absurd two
untouched_both (Some a) (Some b) (Some c) one two = (untouched_twice a b c one.0 two.0, (λ u. two.1 u ∙ one.1 u))

-- no call
pub untouched_none : (a : Option Disks) → OnDisks a a Untouched
untouched_none None = tt
untouched_none (Some a) = (record { blocks = record { stable = λ u k. refl; latest = λ u k. refl; loose = λ u k. refl }; fuse = refl }, (λ u. refl))
