-- What stands after a call that belongs to racks alone.
use Rattle.std.proofs.Common.{◌≡◌, ◌∙◌, inl, inr, ℕ, ◌%◌, List, IsTrue, cond, false, sym, ap, arith}
use Rattle.std.proofs.lemmas.Bool.{cases_Bool}
use Rattle.vx_disk.specs.Blocks.{bit_at}
use Rattle.vx_disk.specs.Disks.{Disks, picked, loose_place}
use Rattle.vx_disk.specs.Moves.{Blocks, Surely, Settled, Everywhere}
use Rattle.vx_disk.specs.Racks.{Alike, IsRack, SameContents, Stopped}
use Rattle.vx_disk.specs.Shelf.{Values, Meaning, Lawful, Goes, Holds, Keeps}

-- where nothing changed, the fuse and the down state neither, it is a call that writes nothing
pub alike_Goes : (written : Values) (old new : Meaning) → Alike old new → new.down ≡ old.down → new.armed ≡ old.armed → Goes written old new
alike_Goes written old new alike down armed = record {
  units = alike.contents.units;
  size = alike.contents.size;
  tells = alike.contents.tells;
  reads = λ u b v is. inl (inl (alike.contents.reads u b v is));
  leaves = λ u b v left. inl (alike.contents.leaves u b v left);
  later = omega (arith, alike.contents.moment);
  since = λ t i le left. inl (alike.contents.since t i left);
  keeps = λ t i le left. alike.contents.keeps t i left;
  faults = λ u. omega (arith, alike.counts.faults u);
  disk_faults = λ d. omega (arith, alike.counts.disk_faults d);
  falls = λ is. down ∙ is;
  unarmed = λ no. armed ∙ no;
  safe = λ no is. sym down ∙ is;
}

-- the same contents: what is known of a block stays known
module _ (old new : Meaning) (same : SameContents old new) where
  pub same_Holds : (u b : ℕ) (x : List ℕ) → Holds old u b x → Holds new u b x
  same_Holds u b x holds = record { only = λ v is. holds.only v (same.reads u b v is) }

  pub same_Keeps : (u b : ℕ) (x : List ℕ) → Keeps old u b x → Keeps new u b x
  same_Keeps u b x keeps = record { only = λ v left. keeps.only v (same.leaves u b v left) }

  pub same_Surely : (u b : ℕ) (P : List ℕ → Type 0) → Surely old u b P → Surely new u b P
  same_Surely u b P sure = record { each = λ v left. sure.each v (same.leaves u b v left) }

  pub same_Settled : (mine : Blocks) → Settled old mine → Settled new mine
  same_Settled mine settled = record { each = λ u b v w is left other. settled.each u b v w is (same.leaves u b v left) (same.leaves u b w other) }

-- after a crash
module _ (old new : Meaning) (stopped : Stopped old new) where
  pub crash_Keeps : (u b : ℕ) (x : List ℕ) → Keeps old u b x → Keeps new u b x
  crash_Keeps u b x keeps = record { only = λ v left. keeps.only v (stopped.leaves u b v left) }

  -- a read gives what the crash kept
  pub crash_Holds : (u b : ℕ) (x : List ℕ) → Keeps old u b x → Holds new u b x
  crash_Holds u b x keeps = record { only = λ v is. keeps.only v (stopped.reads u b v is) }

  pub crash_Surely : (u b : ℕ) (P : List ℕ → Type 0) → Surely old u b P → Surely new u b P
  crash_Surely u b P sure = record { each = λ v left. sure.each v (stopped.leaves u b v left) }

  pub crash_Settled : (mine : Blocks) → Settled old mine → Settled new mine
  crash_Settled mine settled = record { each = λ u b v w is left other. settled.each u b v w is (stopped.leaves u b v left) (stopped.leaves u b w other) }

-- a crash keeps the stable value of a block that is not loose
pub picked_stable : (size : ℕ → ℕ) (d : Disks) (pick u b : ℕ) → d.loose u b ≡ false → picked size d pick u b ≡ d.stable u b
unfolding picked
picked_stable size d pick u b is = ap (λ l. cond l (cond (bit_at pick (loose_place size d.loose u b % 64)) (d.latest u b) (d.stable u b)) (d.stable u b)) is

-- where a rack is down, a crash leaves one value of each block
pub rest_Settled : (m : Meaning) → Lawful m → IsRack m → IsTrue m.down → Settled m Everywhere
rest_Settled m lawful rack down = record {
  each = λ u b v w here left other. elim (cases_Bool m.tells) [
    | inl tells ↦ rack.latest tells down u b v (rack.at_rest down u b v left) ∙ sym (rack.latest tells down u b w (rack.at_rest down u b w other))
    | inr not ↦ absurd (lawful.none not u b v left)
  ];
}
