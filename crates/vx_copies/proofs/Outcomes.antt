-- What all imports over one image find.
use Rattle.std.proofs.Common.{◌≡◌, ◌⊎◌, inl, inr, ⊎_elim, ℕ, zero, suc, ◌+◌, ◌<◌, ◌≤◌, Bool, true, false, Option, Some, None, List, refl, ap, sym, subst, ◌∙◌, arith}
use Rattle.std.specs.Prelude.{◌&&◌, if◌then◌else◌}
use Rattle.std.proofs.lemmas.Bool.{both_ways, cases_lt}
use Rattle.vx_disk.specs.Blocks.{bit_at}
use Rattle.vx_disk.specs.Moves.{Beside}
use Rattle.vx_disk.specs.Shelf.{Each, Image, Meaning}
use Rattle.vx_copyfmt.specs.Copies.{Copy, Disk, Holds, copy_of}
use Rattle.vx_copyfmt.specs.Commits.{Answers, FromNew, FromOld, GivesConfig, Older, Torn}
use Rattle.vx_copyfmt.proofs.Areas.{lower_older}
use Rattle.vx_copyfmt.proofs.Spoiling.{Beside as Near, Kept, WasTorn, import_torn}
use Rattle.vx_copyfmt.specs.Imports.{import_of, is_label, later, newest_found, on_disk}
use Rattle.vx_copyfmt.specs.Labels.{seen_in}
use Rattle.vx_copyfmt.proofs.Committing.{found_wants, no_strange, old_misses, settle_gives, settle_misses}
use Rattle.vx_copyfmt.proofs.Newest.{Below, BelowCopy, amid_gives, below_later, below_on, import_new, later_either, later_keeps, later_none, later_takes}
use Rattle.vx_copyio.specs.Putting.{AreasOf}
use Rattle.vx_config.specs.declared.config.Config.{Config}
use Rattle.vx_copies.specs.Bodies.{failed_in}
use Rattle.vx_copies.specs.Commits.{Becomes, Behind, Below as Under, HaveLabels, HeldGood, IsOne, IsTry, FoundOutcome, ReadyDisks, Stage, Underway, WasCommitted}
use Rattle.vx_copies.specs.Looking.{on_shelf}
use Rattle.vx_copies.specs.Marks.{failed_at}
use Rattle.vx_copies.proofs.OneTry.{as_before, held_or, later_torn}

-- ---- the greatest copy of those that can be read

module _ (reads : ℕ → List ℕ → Option Config) (s : ℕ) (x : Config) (units : ℕ) (i : Image) (readable : ℕ → Bool) (labels : (u : ℕ) → u < units → is_label (seen_in (i u 0)) ≡ true)
    (class : (u : ℕ) → u < units → ((area : ℕ) × (copy_of reads (i u) ≡ Some (record { serial = s; area = area; body = Holds x }))) ⊎ BelowCopy s (copy_of reads (i u))) where
  -- it is this one, or each that can be read has a lesser copy
  abbrev Top : ℕ → Option (ℕ × Copy Config) → Type 0
  Top n o = ((u : ℕ) × (area : ℕ) × (o ≡ Some (u, record { serial = s; area = area; body = Holds x }))) ⊎ (Below s o × ((u : ℕ) → u < n → readable u ≡ true → BelowCopy s (copy_of reads (i u))))

  abbrev Put : Bool → ℕ → Option (ℕ × Copy Config)
  Put t n = if t && is_label (seen_in (i n 0)) then on_disk n (copy_of reads (i n)) else None

  longer : (n : ℕ) → ((u : ℕ) → u < n → readable u ≡ true → BelowCopy s (copy_of reads (i u))) → (readable n ≡ true → BelowCopy s (copy_of reads (i n))) → (u : ℕ) → u < suc n → readable u ≡ true → BelowCopy s (copy_of reads (i u))
  longer n before here u lt is = elim (cases_lt u n) [
    | inl below ↦ before u below is
    | inr last ↦ let same : n ≡ u = omega (arith, lt, last) in subst (λ (k : ℕ). BelowCopy s (copy_of reads (i k))) same (here (subst (λ (k : ℕ). readable k ≡ true) (sym same) is))
  ]

  one_more : (n : ℕ) (o : Option (ℕ × Copy Config)) → n < units → Top n o → (b : Bool) → readable n ≡ b → Top (suc n) (later o (Put b n))
  one_more n o lt top false out =
      let none : later o None ≡ o = later_none o in
      elim top [
        | inl new ↦ inl (new.0, new.1, none ∙ new.2)
        | inr old ↦ inr (subst (Below s) (sym none) old.0, longer n old.1 (λ is. absurd (both_ways (readable n) out is)))
      ]
  one_more n o lt top true in_it =
      let put : Put true n ≡ on_disk n (copy_of reads (i n)) = rw (labels n lt) refl in
      let is : later o (Put true n) ≡ later o (on_disk n (copy_of reads (i n))) = ap (λ (p : Option (ℕ × Copy Config)). later o p) put in
      elim (class n lt) [
        | inl copy ↦
            let y : ℕ × Copy Config = (n, record { serial = s; area = copy.0; body = Holds x }) in
            let here : later o (Put true n) ≡ later o (Some y) = is ∙ ap (λ (p : Option (Copy Config)). later o (on_disk n p)) copy.1 in
            elim top [
              | inl new ↦
                  let z : ℕ × Copy Config = (new.0, record { serial = s; area = new.1; body = Holds x }) in
                  let both : later o (Put true n) ≡ later (Some z) (Some y) = here ∙ ap (λ (p : Option (ℕ × Copy Config)). later p (Some y)) new.2 in
                  elim (later_either z y) [
                    | inl first ↦ inl (new.0, new.1, both ∙ first)
                    | inr second ↦ inl (n, copy.0, both ∙ second)
                  ]
              | inr old ↦ inl (n, copy.0, here ∙ later_takes s o y (omega arith) old.0)
            ]
        | inr less ↦ elim top [
          | inl new ↦
              let z : ℕ × Copy Config = (new.0, record { serial = s; area = new.1; body = Holds x }) in
              inl (new.0, new.1, is ∙ ap (λ (p : Option (ℕ × Copy Config)). later p (on_disk n (copy_of reads (i n)))) new.2 ∙ later_keeps s z (on_disk n (copy_of reads (i n))) (omega arith) (below_on s n (copy_of reads (i n)) less))
          | inr old ↦ inr (
            subst (Below s) (sym is) (below_later s o (on_disk n (copy_of reads (i n))) old.0 (below_on s n (copy_of reads (i n)) less)),
            longer n old.1 (λ read. less),
          )
        ]
      ]

  next_top : (n : ℕ) → n < units → Top n (newest_found reads readable i n) → (b : Bool) → readable n ≡ b → Top (suc n) (newest_found reads readable i (suc n))
  next_top n lt before b is = subst (λ (t : Bool). Top (suc n) (later (newest_found reads readable i n) (Put t n))) (sym is) (one_more n (newest_found reads readable i n) lt before b is)

  pub top_of : (n : ℕ) → n ≤ units → Top n (newest_found reads readable i n)
  top_of zero le = inr (tt, λ u lt. absurd (omega (arith, lt)))
  top_of (suc n) le = next_top n (omega (arith, le)) (top_of n (omega (arith, le))) (readable n) refl

-- ---- the tries of a commit

-- whichever disks can be read, an import over the image finds one configuration, or is refused with 8 or 9
record OneFound (begun : ℕ → Config → Type 0) (held : Option Config) (m : Meaning) (i : Image) : Type 0 where
  found : Option Config
  which : (found ≡ held) ⊎ ((serial : ℕ) × (d : Config) × (found ≡ Some d) × begun serial d)
  each : (readable : ℕ → Bool) → Answers found (import_of (on_shelf m) failed_in m.units readable i)

-- an image without a torn disk
module _ (good : ℕ) (c d : Config) (old new : Meaning) (underway : Underway good c d old new) (held : Option Config) (was : WasCommitted good held old) (below : Under c old) (labels : HaveLabels old)
    (base : Image) (has : Each old.leaves base) (i : Image) (beside : Beside (AreasOf (HeldGood c old)) old.leaves i)
    (plain : (u : ℕ) → HeldGood c old u → FromOld (on_shelf old) (old.leaves u) (i u) ⊎ FromNew (on_shelf old) (IsOne c d.serial underway.tries u) (old.leaves u) (i u))
    (led : (u : ℕ) → HeldGood c old u → bit_at good u ≡ false → FromOld (on_shelf old) (old.leaves u) (i u) ⊎ Behind good c d.serial underway.tries old i u) where
  abbrev reads : ℕ → List ℕ → Option Config
  reads = on_shelf old

  abbrev New : ℕ → Type 0
  New u = FromNew reads (IsOne c d.serial underway.tries u) (old.leaves u) (i u)

  abbrev Old : ℕ → Type 0
  Old u = FromOld reads (old.leaves u) (i u)

  failed_left : (u b : ℕ) → (HeldGood c old u → ⊥) → old.leaves u b (i u b)
  failed_left u b out = ⊎_elim (λ is. is) (λ (mine : AreasOf (HeldGood c old) u b). absurd (out mine.on)) (beside u b)

  -- each disk is as one of before, or has a copy that was begun
  kind : (u : ℕ) → u < old.units → Old u ⊎ (HeldGood c old u × New u)
  kind u lt = elim (held_or c.disks u) [
    | inr failed ↦ inl (as_before reads (old.leaves u) (i u) (λ b. failed_left u b (λ mine. both_ways (failed_at c.disks u) mine.good failed)))
    | inl stays ↦
        let mine : HeldGood c old u = record { below = lt; good = stays } in
        ⊎_elim (λ from. inl from) (λ from. inr (mine, from)) (plain u mine)
  ]

  labelled : (u : ℕ) → u < old.units → is_label (seen_in (i u 0)) ≡ true
  labelled u lt = labels.each u (i u 0) lt (⊎_elim (λ is. is) (λ (mine : AreasOf (HeldGood c old) u 0). absurd (omega (arith, mine.first))) (beside u 0))

  older : (u : ℕ) → u < old.units → Older reads (c.serial + 1) (old.leaves u)
  older u lt = lower_older reads (c.serial + 1) (old.leaves u) (below.each u lt)

  far : (u b : ℕ) → old.units ≤ u → old.leaves u b (i u b)
  far u b le = failed_left u b (λ mine. omega (arith, le, mine.below))

  -- ---- none has such a copy

  none_outcome : ((u : ℕ) → u < old.units → Old u) → OneFound (IsTry c d.serial old new) held old i
  none_outcome all = record { found = held; which = inl refl; each = each }
    where
      each : (readable : ℕ → Bool) → Answers held (import_of reads failed_in old.units readable i)
      each readable = elim (amid_gives reads failed_in (λ s x. ⊥) (c.serial + 1) (λ s x no. absurd no) old.units old.leaves i base (λ u lt. inl (all u lt)) has far older readable) [
        | inl from ↦ subst (Answers held) (sym from.same) (was.committed.each from.image readable from.left)
        | inr made ↦ absurd made.made
      ]

  -- ---- the greatest one

  -- on this disk, and the others have no greater one
  abbrev Crown : ℕ → Type 0
  Crown n = (u : ℕ) × HeldGood c old u × (from : New u) × ((v : ℕ) → v < n → Old v ⊎ ((f : New v) × (f.serial ≤ from.serial)))

  extend : (n s : ℕ) → ((v : ℕ) → v < n → Old v ⊎ ((f : New v) × (f.serial ≤ s))) → Old n ⊎ ((f : New n) × (f.serial ≤ s)) → (v : ℕ) → v < suc n → Old v ⊎ ((f : New v) × (f.serial ≤ s))
  extend n s before here v lt = elim (cases_lt v n) [
    | inl below ↦ before v below
    | inr last ↦ let same : n ≡ v = omega (arith, lt, last) in subst (λ (k : ℕ). Old k ⊎ ((f : New k) × (f.serial ≤ s))) same here
  ]

  higher : (v s t : ℕ) → s ≤ t → Old v ⊎ ((f : New v) × (f.serial ≤ s)) → Old v ⊎ ((f : New v) × (f.serial ≤ t))
  higher v s t le (inl from) = inl from
  higher v s t le (inr from) = inr (from.0, omega (arith, from.1, le))

  all_old : (n : ℕ) → ((v : ℕ) → v < n → Old v) → Old n → (v : ℕ) → v < suc n → Old v
  all_old n before here v lt = elim (cases_lt v n) [
    | inl below ↦ before v below
    | inr last ↦ let same : n ≡ v = omega (arith, lt, last) in subst Old same here
  ]

  crown_more : (n : ℕ) → ((v : ℕ) → v < n → Old v) ⊎ Crown n → Old n ⊎ (HeldGood c old n × New n) → ((v : ℕ) → v < suc n → Old v) ⊎ Crown (suc n)
  crown_more n (inl all) (inl from) = inl (all_old n all from)
  crown_more n (inl all) (inr new_here) = inr (n, new_here.0, new_here.1, extend n new_here.1.serial (λ v lt. inl (all v lt)) (inr (new_here.1, omega arith)))
  crown_more n (inr crown) (inl from) = inr (crown.0, crown.1, crown.2, extend n crown.2.serial crown.3 (inl from))
  crown_more n (inr crown) (inr new_here) = elim (cases_lt crown.2.serial new_here.1.serial) [
    | inl greater ↦ inr (n, new_here.0, new_here.1, extend n new_here.1.serial (λ v lt. higher v crown.2.serial new_here.1.serial (omega (arith, greater)) (crown.3 v lt)) (inr (new_here.1, omega arith)))
    | inr less ↦ inr (crown.0, crown.1, crown.2, extend n crown.2.serial crown.3 (inr (new_here.1, less)))
  ]

  crown_of : (n : ℕ) → n ≤ old.units → ((v : ℕ) → v < n → Old v) ⊎ Crown n
  crown_of zero le = inl (λ v lt. absurd (omega (arith, lt)))
  crown_of (suc n) le = crown_more n (crown_of n (omega (arith, le))) (kind n (omega (arith, le)))

  -- ---- what imports find then

  module _ (u : ℕ) (mine : HeldGood c old u) (from : New u) (most : (v : ℕ) → v < old.units → Old v ⊎ ((f : New v) × (f.serial ≤ from.serial))) where
    class : (v : ℕ) → v < old.units → ((area : ℕ) × (copy_of reads (i v) ≡ Some (record { serial = from.serial; area = area; body = Holds from.config }))) ⊎ BelowCopy from.serial (copy_of reads (i v))
    class v lt = elim (most v lt) [
      | inl before ↦ inr (by_copy (copy_of reads (i v)) refl before)
      | inr made ↦ by_serial made.0 (cases_lt made.0.serial from.serial) made.1
    ]
      where
        by_copy : (o : Option (Copy Config)) → copy_of reads (i v) ≡ o → Old v → BelowCopy from.serial o
        by_copy None is before = tt
        by_copy (Some y) is before =
            let below : y.serial < c.serial + 1 = (older v lt).below before.disk y before.among (sym before.copy ∙ is) in
            omega (arith, below, from.made.above)

        by_serial : (f : New v) → (f.serial < from.serial) ⊎ (from.serial ≤ f.serial) → f.serial ≤ from.serial
            → ((area : ℕ) × (copy_of reads (i v) ≡ Some (record { serial = from.serial; area = area; body = Holds from.config }))) ⊎ BelowCopy from.serial (copy_of reads (i v))
        by_serial f (inl less) le = inr (subst (BelowCopy from.serial) (sym f.copy) less)
        by_serial f (inr ge) le =
            let number : f.serial ≡ from.serial = omega (arith, ge, le) in
            let one : f.config ≡ from.config = f.made.is ∙ ap underway.tries number ∙ sym from.made.is in
            inl (f.area, f.copy ∙ ap (λ (n : ℕ). Some (record { serial = n; area = f.area; body = Holds f.config })) number ∙ ap (λ (y : Config). Some (record { serial = from.serial; area = f.area; body = Holds y })) one)

    -- a disk with a copy as great cannot be read
    unread : (readable : ℕ → Bool) (v : ℕ) (f : New v) → from.serial ≤ f.serial → (readable v ≡ true → BelowCopy from.serial (copy_of reads (i v))) → readable v ≡ false
    unread readable v f le below = by_read (readable v) refl
      where
        by_read : (b : Bool) → readable v ≡ b → readable v ≡ false
        by_read false is = is
        by_read true is = let less : f.serial < from.serial = subst (BelowCopy from.serial) f.copy (below is) in absurd (omega (arith, less, le))

    -- a disk of the set that has one
    leading : (g : ℕ) × HeldGood c old g × (bit_at good g ≡ true) × (f : New g) × (from.serial ≤ f.serial)
    leading = by_bit (bit_at good u) refl
      where
        by_bit : (b : Bool) → bit_at good u ≡ b → (g : ℕ) × HeldGood c old g × (bit_at good g ≡ true) × (f : New g) × (from.serial ≤ f.serial)
        by_bit true is = (u, mine, is, from, omega arith)
        by_bit false is = elim (led u mine is) [
          | inl before ↦ absurd (too_late (older u mine.below) before)
          | inr behind ↦ (behind.leader, behind.held, behind.member, behind.front, as_great behind)
        ]
          where
            too_late : Older reads (c.serial + 1) (old.leaves u) → Old u → ⊥
            too_late none before =
                let below : from.serial < c.serial + 1 = none.below before.disk (record { serial = from.serial; area = from.area; body = Holds from.config }) before.among (sym before.copy ∙ from.copy) in
                omega (arith, below, from.made.above)

            as_great : (behind : Behind good c d.serial underway.tries old i u) → from.serial ≤ behind.front.serial
            as_great behind =
                let p : Copy Config = record { serial = from.serial; area = from.area; body = Holds from.config } in
                let q : Copy Config = record { serial = behind.from.serial; area = behind.from.area; body = Holds behind.from.config } in
                let same : Some p ≡ Some q = sym from.copy ∙ behind.from.copy in
                let one : p ≡ q = cc in
                let number : from.serial ≡ behind.from.serial = ap (λ (y : Copy Config). y.serial) one in
                omega (arith, number, behind.ahead)

    -- what was begun up to this one
    abbrev Begun : ℕ → Config → Type 0
    Begun s y = (c.serial < s) × (s ≤ from.serial) × (y ≡ underway.tries s)

    begun_kind : (v : ℕ) → v < old.units → Old v ⊎ FromNew reads Begun (old.leaves v) (i v)
    begun_kind v lt = elim (most v lt) [
      | inl before ↦ inl before
      | inr made ↦ inr (record {
        serial = made.0.serial;
        config = made.0.config;
        area = made.0.area;
        made = (made.0.made.above, made.1, made.0.made.is);
        first = made.0.first;
        there = made.0.there;
        label = made.0.label;
        copy = made.0.copy;
      })
    ]

    -- an earlier one holds the disk as good too
    holds_it : (s : ℕ) (y : Config) → Begun s y → failed_in y u ≡ false
    holds_it s y begun = elim (held_or y.disks u) [
      | inl is ↦ is
      | inr failed ↦
          let early : failed_at (underway.tries s).disks u ≡ true = subst (λ (k : Config). failed_at k.disks u ≡ true) begun.2 failed in
          let late : failed_at (underway.tries from.serial).disks u ≡ true = underway.chain s from.serial begun.0 begun.1 from.made.within u early in
          absurd (both_ways (failed_at (underway.tries from.serial).disks u) (subst (λ (k : Config). failed_at k.disks u ≡ false) from.made.is from.made.holds) late)
    ]

    each_gives : (readable : ℕ → Bool) → GivesConfig from.config (import_of reads failed_in old.units readable i)
    each_gives readable = elim (top_of reads from.serial from.config old.units i readable labelled class old.units (omega arith)) [
      | inl top ↦ subst (GivesConfig from.config) (sym (import_new reads failed_in (λ s y. ⊥) from.serial (λ s y no. absurd no) old.units readable i top.0 (record { serial = from.serial; area = top.1; body = Holds from.config }) from.config
          (no_strange readable i old.units labelled) top.2 refl)) (settle_gives failed_in old.units readable from.config)
      | inr rest ↦
          let out : readable u ≡ false = unread readable u from (omega arith) (rest.1 u mine.below) in
          let lead = leading in
          let lead_out : readable lead.0 ≡ false = unread readable lead.0 lead.3 lead.4 (rest.1 lead.0 lead.1.below) in
          elim (amid_gives reads failed_in Begun (c.serial + 1) (λ s y begun. omega (arith, begun.0)) old.units old.leaves i base begun_kind has far older readable) [
            | inl before ↦ subst (GivesConfig from.config) (sym before.same)
                (old_misses failed_in held from.config readable lead.0 (was.members lead.0 lead.1.below lead.2) lead_out (import_of reads failed_in old.units readable before.image) (was.committed.each before.image readable before.left)
                (found_wants failed_in reads old.units readable before.image lead.0 lead.1.below))
            | inr made ↦ subst (GivesConfig from.config) (sym made.found) (settle_misses failed_in old.units readable made.config from.config u mine.below (holds_it made.serial made.config made.made) out)
          ]
    ]

    crown_outcome : OneFound (IsTry c d.serial old new) held old i
    crown_outcome = record {
      found = Some from.config;
      which = inr (from.serial, from.config, refl, subst (IsTry c d.serial old new from.serial) (sym from.made.is) (underway.tried from.serial from.made.above from.made.within).is);
      each = each_gives;
    }

  one_found : OneFound (IsTry c d.serial old new) held old i
  one_found = elim (crown_of old.units (omega arith)) [
    | inl all ↦ none_outcome all
    | inr crown ↦ crown_outcome crown.0 crown.1 crown.2 crown.3
  ]

-- ---- an image of which a disk may be torn

module _ (good : ℕ) (c d : Config) (old new : Meaning) (underway : Underway good c d old new) (held : Option Config) (was : WasCommitted good held old) (ready : ReadyDisks c old) (labels : HaveLabels old)
    (base : Image) (has : Each old.leaves base) (i : Image) (beside : Beside (AreasOf (HeldGood c old)) old.leaves i) (stage : Stage good c d.serial underway.tries old i) where
  abbrev bodies : ℕ → List ℕ → Option Config
  bodies = on_shelf old

  abbrev NewOn : ℕ → Disk → Type 0
  NewOn u e = FromNew bodies (IsOne c d.serial underway.tries u) (old.leaves u) e

  abbrev OldOn : ℕ → Disk → Type 0
  OldOn u e = FromOld bodies (old.leaves u) e

  abbrev Kind : ℕ → Type 0
  Kind u = (HeldGood c old u → ⊥) ⊎ (HeldGood c old u × Becomes (IsOne c d.serial underway.tries u) old u (i u))

  kind_of : (u : ℕ) → Kind u
  kind_of u = elim (cases_lt u old.units) [
    | inr above ↦ inl (λ mine. omega (arith, above, mine.below))
    | inl lt ↦ elim (held_or c.disks u) [
      | inr failed ↦ inl (λ mine. both_ways (failed_at c.disks u) mine.good failed)
      | inl good_one ↦ let mine : HeldGood c old u = record { below = lt; good = good_one } in inr (mine, stage.each ready u mine)
    ]
  ]

  -- a torn disk as it was
  abbrev mended : (u : ℕ) → Kind u → Disk
  mended u (inl out) = i u
  mended u (inr (mine, inl from)) = i u
  mended u (inr (mine, inr (inl from))) = i u
  mended u (inr (mine, inr (inr torn))) = torn.disk

  abbrev whole : Image
  whole u = mended u (kind_of u)

  whole_beside : (u b : ℕ) (k : Kind u) → old.leaves u b (mended u k b) ⊎ AreasOf (HeldGood c old) u b
  whole_beside u b (inl out) = beside u b
  whole_beside u b (inr (mine, inl from)) = beside u b
  whole_beside u b (inr (mine, inr (inl from))) = beside u b
  whole_beside u b (inr (mine, inr (inr torn))) = inl (torn.among b)

  whole_plain : (u : ℕ) (k : Kind u) → HeldGood c old u → OldOn u (mended u k) ⊎ NewOn u (mended u k)
  whole_plain u (inl out) mine = absurd (out mine)
  whole_plain u (inr (here, inl from)) mine = inl from
  whole_plain u (inr (here, inr (inl from))) mine = inr from
  whole_plain u (inr (here, inr (inr torn))) mine = inl (as_before bodies (old.leaves u) torn.disk torn.among)

  -- a copy that was begun is on no torn disk
  not_torn : (u : ℕ) → HeldGood c old u → NewOn u (i u) → Torn bodies (old.leaves u) (i u) → ⊥
  not_torn u mine from torn =
      later_torn bodies (old.leaves u) c.serial (i u) (record { serial = from.serial; area = from.area; body = Holds from.config })
      (lower_older bodies (c.serial + 1) (old.leaves u) (ready.below.each u mine.below)) from.copy from.made.above torn

  kept_new : (u : ℕ) (k : Kind u) → HeldGood c old u → (from : NewOn u (i u)) → (f : NewOn u (mended u k)) × (from.serial ≤ f.serial)
  kept_new u (inl out) mine from = (from, omega arith)
  kept_new u (inr (here, inl was_old)) mine from = (from, omega arith)
  kept_new u (inr (here, inr (inl made))) mine from = (from, omega arith)
  kept_new u (inr (here, inr (inr torn))) mine from = absurd (not_torn u mine from torn)

  by_led : (u : ℕ) → HeldGood c old u → NewOn u (i u) → FromOld bodies (old.leaves u) (i u) ⊎ Behind good c d.serial underway.tries old i u ⊎ Torn bodies (old.leaves u) (i u)
      → OldOn u (i u) ⊎ ((from : NewOn u (i u)) × (g : ℕ) × HeldGood c old g × (bit_at good g ≡ true) × (f : NewOn g (whole g)) × (from.serial ≤ f.serial))
  by_led u mine made (inl from) = inl from
  by_led u mine made (inr (inl behind)) =
      let f = kept_new behind.leader (kind_of behind.leader) behind.held behind.front in
      inr (behind.from, behind.leader, behind.held, behind.member, f.0, omega (arith, behind.ahead, f.1))
  by_led u mine made (inr (inr torn)) = absurd (not_torn u mine made torn)

  whole_led : (u : ℕ) (k : Kind u) → HeldGood c old u → bit_at good u ≡ false
      → OldOn u (mended u k) ⊎ ((from : NewOn u (mended u k)) × (g : ℕ) × HeldGood c old g × (bit_at good g ≡ true) × (f : NewOn g (whole g)) × (from.serial ≤ f.serial))
  whole_led u (inl out) mine outside = absurd (out mine)
  whole_led u (inr (here, inl from)) mine outside = inl from
  whole_led u (inr (here, inr (inl made))) mine outside = by_led u mine made (stage.led ready u mine outside)
  whole_led u (inr (here, inr (inr torn))) mine outside = inl (as_before bodies (old.leaves u) torn.disk torn.among)

  led_whole : (u : ℕ) → HeldGood c old u → bit_at good u ≡ false → OldOn u (whole u) ⊎ Behind good c d.serial underway.tries old whole u
  led_whole u mine outside = ⊎_elim (λ from. inl from) (λ x. inr (record { from = x.0; leader = x.1; held = x.2; member = x.3; front = x.4; ahead = x.5 })) (whole_led u (kind_of u) mine outside)

  alike_whole : (u : ℕ) (k : Kind u) → (seen_in (i u 0) ≡ seen_in (mended u k 0))
      × ((copy_of bodies (i u) ≡ copy_of bodies (mended u k)) ⊎ (HeldGood c old u × ((torn : Torn bodies (old.leaves u) (i u)) × (copy_of bodies (mended u k) ≡ Some torn.was))))
  alike_whole u (inl out) = (refl, inl refl)
  alike_whole u (inr (here, inl from)) = (refl, inl refl)
  alike_whole u (inr (here, inr (inl made))) = (refl, inl refl)
  alike_whole u (inr (here, inr (inr torn))) = (torn.label, inr (here, (torn, torn.copy)))

  near_whole : (u : ℕ) → Near bodies failed_in (HeldGood c old) old.units old.leaves i whole u
  near_whole u = by_alike (alike_whole u (kind_of u))
    where
      by_alike : (seen_in (i u 0) ≡ seen_in (whole u 0)) × ((copy_of bodies (i u) ≡ copy_of bodies (whole u)) ⊎ (HeldGood c old u × ((torn : Torn bodies (old.leaves u) (i u)) × (copy_of bodies (whole u) ≡ Some torn.was))))
          → Near bodies failed_in (HeldGood c old) old.units old.leaves i whole u
      by_alike (label, inl copy) = Kept label copy
      by_alike (label, inr (mine, (torn, copy))) = WasTorn label mine torn copy

  plain_found : OneFound (IsTry c d.serial old new) held old whole
  plain_found = one_found good c d old new underway held was ready.below labels base has whole (λ u b. whole_beside u b (kind_of u)) (λ u mine. whole_plain u (kind_of u) mine) led_whole

  pub outcome : FoundOutcome (IsTry c d.serial old new) held c old i
  outcome =
      let one = plain_found in
      record {
        found = one.found;
        which = one.which;
        each = λ readable. ⊎_elim (λ is. inl (subst (Answers one.found) (sym is) (one.each readable))) (λ spoilt. inr spoilt)
            (import_torn bodies failed_in (HeldGood c old) old.units old.leaves i whole readable (λ u lt. near_whole u));
      }
