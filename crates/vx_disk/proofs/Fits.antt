-- New disks.
use Rattle.std.proofs.Common.{◌≡◌, inl, inr, ⊎_elim, ℕ, ◌<◌, ◌+◌, ◌-◌, ◌*◌, Option, Bool, false, Vec, List, [], ◌∷◌, ◌++◌, length, map, get_or, take, drop, refl, sym, ◌∙◌, ap, subst, arith, length-append}
use Rattle.std.specs.Prelude.{replicate}
use Rattle.std.specs.declared.alloc.Global.{Global}
use Rattle.std.proofs.lemmas.List.{length-map, get_or-map, get_or_past, replicate-append-replicate, length-replicate, drop_at, take_at}
use Rattle.std.proofs.lemmas.Bool.{cases_lt}
use Rattle.vx_model.specs.declared.errors.Stop.{Stop}
use Rattle.vx_disk.specs.declared.unit.MemUnit.{MemUnit}
use Rattle.vx_disk.specs.Blocks.{block_at}
use Rattle.vx_disk.specs.Racks.{Alike, Fitted, SameContents, Unfitted}
use Rattle.vx_disk.specs.Memory.{stable_of, latest_of, loose_of, size_of, faults_of, failing_of, may_keep, meaning_of, Since, IsZeroed, AllZeroed}
use Rattle.vx_disk.proofs.Crashes.{some_unit}
use Rattle.vx_disk.proofs.Flags.{no_loose}
use Rattle.vx_disk.proofs.Pasts.{States, was-since}

zero_at : (n b rest : ℕ) → n ≡ 512 * b + (512 + rest) → block_at (replicate n 0) b ≡ replicate 512 0
zero_at n b rest split =
    ap (λ (k : ℕ). block_at (replicate k 0) b) split
    ∙ ap (λ l. take 512 (drop (512 * b) l)) (sym (replicate-append-replicate (512 * b) (512 + rest) 0))
    ∙ ap (take 512) (drop_at (replicate {A = ℕ} (512 * b) 0) (replicate {A = ℕ} (512 + rest) 0) (512 * b) (length-replicate {A = ℕ} (512 * b) 0))
    ∙ ap (take 512) (sym (replicate-append-replicate 512 rest 0))
    ∙ take_at (replicate {A = ℕ} 512 0) (replicate {A = ℕ} rest 0) 512 (length-replicate {A = ℕ} 512 0)

zero_block : (blocks b : ℕ) → b < blocks → block_at (replicate (512 * blocks) 0) b ≡ replicate 512 0
zero_block blocks b below = zero_at (512 * blocks) b (512 * (blocks - b - 1)) (omega arith)

module _ (disks blocks : ℕ) (units : List MemUnit) (zeroed : AllZeroed disks blocks units) where
  at : (u : ℕ) (below : u < disks) → (d : MemUnit) × IsZeroed blocks (get_or units u d) × (u < length units)
  at u below =
      let inside : u < length units = omega (arith, zeroed.number) in
      let d = some_unit units u inside in
      (d, zeroed.each u d below, inside)

  latest_zero : (u : ℕ) → u < disks → latest_of units u ≡ replicate (512 * blocks) 0
  latest_zero u below = let z = at u below in get_or-map (λ m. m.latest.items) units u z.0 [] z.2 ∙ z.1.latest

  stable_zero : (u : ℕ) → u < disks → stable_of units u ≡ replicate (512 * blocks) 0
  stable_zero u below = let z = at u below in get_or-map (λ m. m.stable.items) units u z.0 [] z.2 ∙ z.1.stable

  size_blocks : (u : ℕ) → u < disks → size_of units u ≡ blocks
  size_blocks u below = let z = at u below in get_or-map (λ m. length m.loose.items) units u z.0 0 z.2 ∙ ap length z.1.loose ∙ length-replicate blocks _

  at_zero : (u b : ℕ) → u < disks → b < blocks → (v : List ℕ) → may_keep units u b v → v ≡ replicate 512 0
  at_zero u b inside below v = ⊎_elim
      (λ (s : v ≡ block_at (stable_of units u) b). s ∙ ap (λ l. block_at l b) (stable_zero u inside) ∙ zero_block blocks b below)
      (λ (s : v ≡ block_at (latest_of units u) b). s ∙ ap (λ l. block_at l b) (latest_zero u inside) ∙ zero_block blocks b below)

  not_loose : (u b : ℕ) → get_or (loose_of units u) b false ≡ false
  not_loose u b = elim (cases_lt u disks) [
    | inl below ↦ let z = at u below in ap (λ l. get_or l b false) (get_or-map (λ m. m.loose.items) units u z.0 [] z.2 ∙ z.1.loose) ∙ no_loose blocks b
    | inr past ↦ ap (λ l. get_or l b false) (get_or_past (map (λ m. m.loose.items) units) u [] (omega (arith, length-map units (λ (m : MemUnit). m.loose.items), zeroed.number)))
  ]

  not_failing : (u : ℕ) → failing_of units u ≡ false
  not_failing u = elim (cases_lt u disks) [
    | inl below ↦ let z = at u below in get_or-map (λ m. m.failing) units u z.0 false z.2 ∙ z.1.works
    | inr past ↦ get_or_past (map (λ m. m.failing) units) u false (omega (arith, length-map units (λ (m : MemUnit). m.failing), zeroed.number))
  ]

  module _ (old : List MemUnit) (none : length old ≡ 0) where
    no_faults : (u : ℕ) → faults_of old u ≡ 0
    no_faults u = get_or_past (map (λ m. m.faults) old) u 0 (omega (arith, length-map old (λ (m : MemUnit). m.faults), none))

    none_failing : (u : ℕ) → failing_of old u ≡ false
    none_failing u = get_or_past (map (λ m. m.failing) old) u false (omega (arith, length-map old (λ (m : MemUnit). m.failing), none))

    pub zeroed-Fitted : (state : Vec MemUnit Global) (past past' : States) (down : Bool) (fuse : Option (ℕ × ℕ)) → down ≡ false
        → state.items ≡ old → past' ≡ past ++ state ∷ [] → Fitted disks blocks (meaning_of old past down fuse) (meaning_of units past' down fuse)
    zeroed-Fitted state past past' down fuse up is pushed = record {
      units = zeroed.number;
      size = size_blocks;
      zero_reads = λ u b v inside below reads. at_zero u b inside below v (inr reads);
      zeroed = λ u b v inside below left. at_zero u b inside below v left;
      later = omega (arith, ap length pushed, length-append past (state ∷ []));
      since = λ t i le left. ⊎_elim (λ now. inr now) (λ was. inl (subst (λ (l : List MemUnit). Since l past t i) is (was-since state past past' pushed t i le was))) left;
      faults = λ u. omega (arith, no_faults u);
      disk_faults = λ u. omega (arith, no_faults u);
      up = up;
      armed = refl;
      told = (record { loose = not_loose; fuse = refl }, λ u. not_failing u ∙ sym (none_failing u));
    }

-- nothing changed
pub same_SameContents : (units : List MemUnit) (past : States) (down down' : Bool) (fuse fuse' : Option (ℕ × ℕ)) → SameContents (meaning_of units past down fuse) (meaning_of units past down' fuse')
same_SameContents units past down down' fuse fuse' = record {
  units = refl;
  size = λ u. refl;
  tells = refl;
  moment = refl;
  reads = λ u b v is. is;
  still_reads = λ u b v is. is;
  leaves = λ u b v left. left;
  still_leaves = λ u b v left. left;
  now = λ i is. is;
  still_now = λ i is. is;
  since = λ t i left. left;
  keeps = λ t i left. left;
}

pub same_Alike : (units : List MemUnit) (past : States) (down down' : Bool) (fuse fuse' : Option (ℕ × ℕ)) → Alike (meaning_of units past down fuse) (meaning_of units past down' fuse')
same_Alike units past down down' fuse fuse' = record {
  contents = same_SameContents units past down down' fuse fuse';
  counts = record { faults = λ u. refl; disk_faults = λ d. refl };
}

pub same_Unfitted : (units : List MemUnit) (past : States) (down : Bool) (fuse : Option (ℕ × ℕ)) (stop : Stop) → Unfitted (meaning_of units past down fuse) (meaning_of units past down fuse) stop
same_Unfitted units past down fuse stop = record {
  contents = same_SameContents units past down down fuse fuse;
  counts = λ d. inl refl;
  fell_not = λ d. omega arith;
  down = refl;
  armed = refl;
  told = (record { blocks = record { stable = λ u b. refl; latest = λ u b. refl; loose = λ u b. refl }; fuse = refl }, λ u. refl);
}
