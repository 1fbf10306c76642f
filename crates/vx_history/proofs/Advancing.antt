-- The next records of a receiver are on its disks: what replays say of it, and what the mode of a link to it says, stays so.
use Rattle.std.proofs.Common.{◌≡◌, ◌∙◌, ◌⊎◌, Bool, ℕ, zero, suc, ◌+◌, ◌≤◌, List, [], ◌∷◌, ◌++◌, length, take, drop, refl, ap, sym, subst, arith, inl, inr}
use Rattle.std.specs.Prelude.{◌-◌, max, if◌then◌else◌, Option}
use Rattle.std.specs.List.{AllByRecursion}
use Rattle.std.proofs.lemmas.List.{take-take, take-append-drop}
use Rattle.vx_model.proofs.Contents.{fold_append, fold_size}
use Rattle.vx_model.specs.Content.{Write, Content, fold_writes, IsPrefixOf}
use Rattle.vx_model.specs.declared.site.Mark.{Mark}
use Rattle.vx_model.specs.declared.site.Mark.TheVariants.{Consistent, Inconsistent}
use Rattle.vx_model.specs.declared.site.SiteState.{SiteState}
use Rattle.vx_model.specs.declared.site.SPhase.{SPhase}
use Rattle.vx_model.specs.declared.site.SPhase.TheVariants.{Quiet, Regions as Copies, Log as Fills, ForkKept}
use Rattle.vx_model.specs.declared.link.Phase.{Phase}
use Rattle.vx_model.specs.declared.link.Phase.TheVariants.{Start, Regions as CopiesRegions, Done, Log as ByLogAgain}
use Rattle.vx_model.specs.declared.link.Mode.{Mode}
use Rattle.vx_model.specs.declared.link.Mode.TheVariants.{Log, Dcm, Replay, Fork, Stale}
use Rattle.vx_history.specs.Groups.{GroupNode}
use Rattle.vx_history.specs.World.{Fuse, Node, Regions, Replays, no_regions}
use Rattle.vx_history.specs.Good.{TellsContent}
use Rattle.vx_history.specs.GoodCopies.{GoodCopy, GoodMode, GoodPhase, GoodReplays, certain_of, is_copying}
use Rattle.vx_history.specs.Regions.{CoversWrite, Fuzzy, IsMapped, joined_maps, marks_of_all}
use Rattle.vx_history.proofs.Each.{each_drop_take, prefix_front, prefix_length}
use Rattle.vx_history.proofs.Fuzzies.{fuzzy_ends, fuzzy_fold, fuzzy_longer}
use Rattle.vx_history.proofs.Marking.{marked_later, marked_put, within_same}

drop_take_none : (n : ℕ) (xs : List Write) → drop n (take n xs) ≡ []
drop_take_none zero xs = refl
drop_take_none (suc n) [] = refl
drop_take_none (suc n) (x ∷ xs) = drop_take_none n xs

drop_take : (n m i : ℕ) (xs : List Write) → i ≡ n + m → drop n (take i xs) ≡ take m (drop n xs)
drop_take zero m i xs e = ap (λ j. take j xs) (let f : i ≡ m = omega (arith, e) in f)
drop_take (suc n) m zero xs e = absurd (omega (arith, e))
drop_take (suc n) m (suc i) [] e = nothing m
  where
    nothing : (m : ℕ) → [] ≡ take m (let ws : List Write = [] in ws)
    nothing zero = refl
    nothing (suc m) = refl
drop_take (suc n) m (suc i) (x ∷ xs) e = drop_take n m i xs (omega (arith, e))

-- A receiver of which the first k records are on its disks, with this log and this mark: a crash drops the other records, and the mark may
-- rise at the end of its replay.
abbrev pub advanced : Node → ℕ → List Write → Mark → Node
advanced n k log mark = record n { base = fold_writes n.base (drop n.safe (take k n.log)); safe = k; log = log; mark = mark }

module _ (held : List Write) (t : Replays) (n : Node) (k : ℕ) (log : List Write) (mark : Mark) (table : GoodReplays held t) (prefix : IsPrefixOf n.log held)
    (content : TellsContent n → n.base ≡ fold_writes n.start (take n.safe n.log)) (copy : GoodCopy held t n)
    (from : n.safe ≤ k) (to : k ≤ length n.log) (same_log : take k log ≡ take k n.log) (shorter : length log ≤ length n.log)
    (rises : n.mark ≡ Consistent → mark ≡ Consistent) (only : mark ≡ Consistent → (n.mark ≡ Consistent) ⊎ ((n.phase ≡ Fills) × (n.end ≤ k))) where
  abbrev m : Node
  m = advanced n k log mark

  abbrev ys : List Write
  ys = drop n.safe (take k n.log)

  -- while it copies nothing waits
  still : n.phase ≡ Copies → fold_writes n.base ys ≡ n.base
  still c =
      let e : k ≡ n.safe = omega (arith, from, to, (copy.copying c).1) in
      ap (λ (xs : List Write). fold_writes n.base xs) (ap (λ i. drop n.safe (take i n.log)) e ∙ drop_take_none n.safe n.log)

  same_front : take k n.log ≡ take k held
  same_front = prefix_front n.log held k prefix to

  onward : n.base ≡ fold_writes n.start (take n.safe n.log) → fold_writes n.base ys ≡ fold_writes n.start (take k log)
  onward e =
      ap (λ (c : Content). fold_writes c ys) e
      ∙ sym (fold_append n.start (take n.safe n.log) ys)
      ∙ ap (λ (xs : List Write). fold_writes n.start xs)
      (ap (λ (xs : List Write). xs ++ ys) (sym (take-take n.safe k n.log from)) ∙ take-append-drop n.safe (take k n.log) ∙ sym same_log)

  fuzzy_onward : n.end ≤ length held → Fuzzy n.base n.start held n.safe (max n.end n.safe) no_regions → Fuzzy (fold_writes n.base ys) n.start held k (max n.end k) no_regions
  fuzzy_onward ends f =
      let e : n.safe + (k - n.safe) ≡ k = omega (arith, from) in
      let long : k ≤ length held = omega (arith, to, prefix_length n.log held prefix) in
      let g : Fuzzy (fold_writes n.base (take (k - n.safe) (drop n.safe held))) n.start held (n.safe + (k - n.safe)) (max n.end k) no_regions =
      fuzzy_fold (k - n.safe) n.base n.start held n.safe (max n.end k) no_regions copy.size (omega (arith, from)) (omega (arith, ends, long))
      (fuzzy_longer n.base n.start held n.safe (max n.end n.safe) n.safe (max n.end k) no_regions no_regions (omega arith) (omega (arith, from)) (within_same no_regions) f) in
      let p : take (k - n.safe) (drop n.safe held) ≡ ys = sym (drop_take n.safe (k - n.safe) k held (sym e)) ∙ ap (λ (xs : List Write). drop n.safe xs) (sym same_front) in
      subst (λ i. Fuzzy (fold_writes n.base ys) n.start held i (max n.end k) no_regions) e
      (subst (λ (xs : List Write). Fuzzy (fold_writes n.base xs) n.start held (n.safe + (k - n.safe)) (max n.end k) no_regions) p g)

  ends_within : n.phase ≡ Fills → n.end ≤ length held
  ends_within f = omega (arith, (copy.filling f).1, (table.spans n.replay copy.known).1)

  -- its content is told by its log
  pub content_advanced : TellsContent m → fold_writes n.base ys ≡ fold_writes n.start (take k log)
  content_advanced (inl q) = onward (content (inl q))
  content_advanced (inr e) = reached (only e)
    where
      reached : (n.mark ≡ Consistent) ⊎ ((n.phase ≡ Fills) × (n.end ≤ k)) → fold_writes n.base ys ≡ fold_writes n.start (take k log)
      reached (inl c) = onward (content (inr c))
      reached (inr (f, le)) =
          fuzzy_ends (fold_writes n.base ys) n.start held k no_regions (fold_size n.base ys ∙ copy.size) (λ v b. refl)
          (fuzzy_longer (fold_writes n.base ys) n.start held k (max n.end k) k k no_regions no_regions (omega arith) (omega (arith, le)) (within_same no_regions)
          (fuzzy_onward (ends_within f) (copy.filling f).2))
          ∙ ap (λ (xs : List Write). fold_writes n.start xs) (sym (same_log ∙ same_front))

  pub copy_advanced : GoodCopy held t m
  copy_advanced = record {
    size = fold_size n.base ys ∙ copy.size;
    known = copy.known;
    copying = λ c. let p = copy.copying c in (inconsistent c mark refl, omega (arith, shorter, p.1, from), omega (arith, shorter, p.2));
    filling = λ f. let p = copy.filling f in (omega (arith, p.0, from), p.1, fuzzy_onward (ends_within f) p.2);
  }
    where
      inconsistent : n.phase ≡ Copies → (x : Mark) → mark ≡ x → x ≡ Inconsistent
      inconsistent c Consistent e = absurd (not_both (only e))
        where
          not_both : (n.mark ≡ Consistent) ⊎ ((n.phase ≡ Fills) × (n.end ≤ k)) → ⊥
          not_both (inl g) = let i : Consistent ≡ Inconsistent = sym g ∙ (copy.copying c).0 in cc
          not_both (inr g) = let i : Copies ≡ Fills = sym c ∙ g.0 in cc
      inconsistent c Inconsistent e = refl

  -- ## The link

  abbrev place : SPhase → ℕ → ℕ
  place p safe = if is_copying p then t.start n.replay else safe

  certain_rises : certain_of t n ≤ certain_of t m
  certain_rises = by_phase n.phase
    where
      by_phase : (p : SPhase) → place p n.safe ≤ place p k
      by_phase Quiet = from
      by_phase Copies = omega arith
      by_phase Fills = from
      by_phase ForkKept = from

  marked_on : (xs : List Write) (map : Regions) → take k n.log ≡ take k xs → IsMapped xs (certain_of t n) n.base n.start map
      → IsMapped xs (certain_of t m) (fold_writes n.base ys) n.start map
  marked_on xs map e good = by_phase n.phase refl
    where
      goes : certain_of t n ≡ n.safe → IsMapped xs (certain_of t m) (fold_writes n.base ys) n.start map
      goes l =
          let c : AllByRecursion (CoversWrite map) (drop n.safe xs) = subst (λ i. AllByRecursion (CoversWrite map) (drop i xs)) l good.covers in
          let d : AllByRecursion (CoversWrite map) ys = subst (λ (zs : List Write). AllByRecursion (CoversWrite map) (drop n.safe zs)) (sym e)
          (each_drop_take (CoversWrite map) n.safe k xs c) in
          marked_put xs ys (certain_of t n) (certain_of t m) n.base n.start map certain_rises d good

      by_phase : (p : SPhase) → n.phase ≡ p → IsMapped xs (certain_of t m) (fold_writes n.base ys) n.start map
      by_phase Quiet p = goes (ap (λ q. place q n.safe) p)
      by_phase Copies p =
          subst (λ (c : Content). IsMapped xs (certain_of t m) c n.start map) (sym (still p)) (marked_later xs (certain_of t n) (certain_of t m) n.base n.start map certain_rises good)
      by_phase Fills p = goes (ap (λ q. place q n.safe) p)
      by_phase ForkKept p = goes (ap (λ q. place q n.safe) p)

  phase_advanced : (map : Regions) (stored : ℕ) (phase : Phase) (id left start end : ℕ) → GoodPhase held t n map stored phase id left start end
      → GoodPhase held t m map stored phase id left start end
  phase_advanced map stored Start id left start end (is, le, ends, own, all, before) = (
    is,
    le,
    ends,
    own,
    marked_on held (joined_maps map (marks_of_all (drop start held))) same_front all,
    λ few. marked_on (take start held) map (same_front ∙ sym (take-take k start held few)) (before (omega (arith, few, from))),
  )
  phase_advanced map stored CopiesRegions id left start end (is, le, same, c, fuzzy) =
      (is, le, same, c, subst (λ (x : Content). Fuzzy x n.start held start end map) (sym (still c)) fuzzy)
  phase_advanced map stored Done id left start end (is, le, same, e, fuzzy) =
      (is, le, same, e, λ c. subst (λ (x : Content). Fuzzy x n.start held start end no_regions) (sym (still c)) (fuzzy c))
  phase_advanced map stored ByLogAgain id left start end (is, le, same, e) = (is, le, same, e)

  pub mode_advanced : (map : Regions) (stored : ℕ) (mode : Mode) → GoodMode held t n map stored mode → GoodMode held t m map stored mode
  mode_advanced map stored Log (c, takes, latest) = (rises c, takes, latest)
  mode_advanced map stored Dcm good = marked_on held map same_front good
  mode_advanced map stored (Replay id phase left start end) good = phase_advanced map stored phase id left start end good
  mode_advanced map stored (Fork maps) good = good
  mode_advanced map stored Stale good = good

-- where no further record is on its disks
pub base_still : (n : Node) → fold_writes n.base (drop n.safe (take n.safe n.log)) ≡ n.base
base_still n = ap (λ (xs : List Write). fold_writes n.base xs) (drop_take_none n.safe n.log)

-- Of another state of a site that differs in nothing that a mode looks at, and is no less consistent, the mode says the same.
module _ (held : List Write) (t : Replays) (n : Node) (state : SiteState) (log : List Write) (session : ℕ) (mark : Mark) (halted : Option ℕ) (fuse : Fuse) (fed : ℕ)
    (failing : ℕ → Bool) (group : Option GroupNode) (rises : n.mark ≡ Consistent → mark ≡ Consistent) where
  abbrev pub alike : Node
  alike = record n { state = state; log = log; session = session; mark = mark; halted = halted; fuse = fuse; fed_by = fed; failing = failing; group = group }

  phase_alike : (map : Regions) (stored : ℕ) (phase : Phase) (id left start end : ℕ) → GoodPhase held t n map stored phase id left start end
      → GoodPhase held t alike map stored phase id left start end
  phase_alike map stored Start id left start end good = good
  phase_alike map stored CopiesRegions id left start end good = good
  phase_alike map stored Done id left start end good = good
  phase_alike map stored ByLogAgain id left start end good = good

  pub mode_alike : (map : Regions) (stored : ℕ) (mode : Mode) → GoodMode held t n map stored mode → GoodMode held t alike map stored mode
  mode_alike map stored Log (c, takes, latest) = (rises c, takes, latest)
  mode_alike map stored Dcm good = good
  mode_alike map stored (Replay id phase left start end) good = phase_alike map stored phase id left start end good
  mode_alike map stored (Fork maps) good = good
  mode_alike map stored Stale good = good
