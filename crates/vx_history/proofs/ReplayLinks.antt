-- A replay begins, a region is read, and its receiver acknowledges: what is said of replays stays so.
use Rattle.std.proofs.Common.{◌≡◌, ◌∙◌, ℕ, ◌+◌, ◌≤◌, ◌<◌, List, length, drop, refl, ap, sym, subst, arith, Bool, true, false, inl}
use Rattle.std.specs.Prelude.{◌-◌, ◌/◌, ◌*◌, ◌&&◌, eqb, leb, ltb, if◌then◌else◌}
use Rattle.std.specs.List.{AllByRecursion}
use Rattle.std.proofs.lemmas.Bool.Decides.{nat_tests}
use Rattle.std.proofs.lemmas.List.{take_all}
use Rattle.vx_model.specs.Content.{Write, Content, fold_writes, IsPrefixOf}
use Rattle.vx_model.specs.declared.site.SPhase.TheVariants.{Regions as Copies, Log as Fills}
use Rattle.vx_model.specs.declared.link.Phase.TheVariants.{Start, Regions as CopiesRegions, Done, Log as ByLogAgain}
use Rattle.vx_model.specs.declared.link.Mode.{Mode}
use Rattle.vx_model.specs.declared.link.Mode.TheVariants.{Log, Replay}
use Rattle.vx_history.specs.World.{Node, Regions, Replays, no_regions}
use Rattle.vx_history.specs.CopySteps.{FitsVolumes, IsBeyond, IsWholeBlocks, NoRegionLeft, RegionFuzzy, begun_table, copying_on, read_table, whole_map, without_region}
use Rattle.vx_history.specs.GoodCopies.{GoodCopy, GoodMode, GoodPhase, GoodReplays, certain_of, is_copying}
use Rattle.vx_history.specs.Receiving.{phase_takes}
use Rattle.vx_history.specs.Regions.{AtSome, CoversWrite, Fuzzy, IsMapped, joined_maps, marks_of_all}
use Rattle.vx_history.specs.Sound.{HasStored}
use Rattle.vx_history.proofs.Blocks.{fold_beyond, fuzzy_without, near_fuzzy, region_within, some_beyond}
use Rattle.vx_history.proofs.Each.{each_drop, each_weaker, prefix_length}
use Rattle.vx_history.proofs.Fuzzies.{fuzzy_longer}
use Rattle.vx_history.proofs.Marking.{in_left, marked_wider, within_same}
use Rattle.vx_history.proofs.Updates.{and_left, and_right, by_test, eqb_equal}

-- ## What is recorded of replays

-- what is known of the replays of one table up to an id holds of another
pub record IsSame (t u : Replays) (last : ℕ) : Type 0 where
  pub start : (i : ℕ) → i ≤ last → u.start i ≡ t.start i
  pub read : (i : ℕ) → i ≤ last → u.read i ≡ t.read i

pub begun_same : (t : Replays) (id head : ℕ) → IsSame t (begun_table t id head) t.begun
begun_same t id head = record {
  start = λ i le. by_test (λ n. n ≡ t.start i) (leb i t.begun) (t.start i) head (λ _. refl) (λ f. absurd (grind (arith, nat_tests)));
  read = λ i le. by_test (λ n. n ≡ t.read i) (leb i t.begun) (t.read i) head (λ _. refl) (λ f. absurd (grind (arith, nat_tests)));
}

pub replays_begun : (held : List Write) (t : Replays) (id head : ℕ) → t.begun < id → head ≡ length held → GoodReplays held t → GoodReplays held (begun_table t id head)
replays_begun held t id head less e good = record {
  spans = λ i le. by_case i le (leb i t.begun) refl;
  rise = λ i j ij le. by_two i j ij le (leb i t.begun) (leb j t.begun) refl refl;
}
  where
    by_case : (i : ℕ) → i ≤ id → (p : Bool) → leb i t.begun ≡ p → ((if p then t.start i else head) ≤ (if p then t.read i else head)) × ((if p then t.read i else head) ≤ length held)
    by_case i le true p = good.spans i (grind (arith, nat_tests))
    by_case i le false p = (omega arith, omega (arith, e))

    by_two : (i j : ℕ) → i < j → j ≤ id → (p q : Bool) → leb i t.begun ≡ p → leb j t.begun ≡ q → (if p then t.read i else head) ≤ (if q then t.start j else head)
    by_two i j ij le true true p q = good.rise i j ij (grind (arith, nat_tests))
    by_two i j ij le true false p q = let k : i ≤ t.begun = grind (arith, nat_tests) in omega (arith, e, (good.spans i k).1)
    by_two i j ij le false true p q = absurd (grind (arith, nat_tests))
    by_two i j ij le false false p q = omega arith

pub copy_begun : (held : List Write) (t : Replays) (id head : ℕ) → t.begun < id → (n : Node) → GoodCopy held t n → GoodCopy held (begun_table t id head) n
copy_begun held t id head less n good =
    let same = begun_same t id head in
    record {
      size = good.size;
      known = omega (arith, good.known, less);
      copying = λ e. let c = good.copying e in (c.0, c.1, omega (arith, c.2, same.start n.replay good.known));
      filling = λ e. let f = good.filling e in (omega (arith, f.0, same.start n.replay good.known), omega (arith, f.1, same.read n.replay good.known), f.2);
    }

-- the last replay reads a region, while its receiver copies
module _ (held : List Write) (t : Replays) (head : ℕ) (table : GoodReplays held t) (now : head ≡ length held) where
  abbrev now_read : ℕ → ℕ
  now_read i = if eqb i t.begun then head else t.read i

  pub rises : (i : ℕ) → i ≤ t.begun → (t.read i ≤ now_read i) × (now_read i ≤ length held)
  rises i le = by_case (eqb i t.begun) refl
    where
      by_case : (p : Bool) → eqb i t.begun ≡ p → (t.read i ≤ (if p then head else t.read i)) × ((if p then head else t.read i) ≤ length held)
      by_case true p = (omega (arith, now, (table.spans i le).1), omega (arith, now))
      by_case false p = (omega arith, (table.spans i le).1)

  pub stays : (i : ℕ) → i < t.begun → now_read i ≡ t.read i
  stays i less = by_test (λ n. n ≡ t.read i) (eqb i t.begun) head (t.read i) (λ e. absurd (grind (arith, nat_tests))) (λ _. refl)

  pub replays_read : GoodReplays held (read_table t head)
  replays_read = record {
    spans = λ i le. (omega (arith, (table.spans i le).0, (rises i le).0), (rises i le).1);
    rise = λ i j ij le. omega (arith, stays i (omega (arith, ij, le)), table.rise i j ij le);
  }

  pub copy_read : (n : Node) → n.phase ≡ Copies → GoodCopy held t n → GoodCopy held (read_table t head) n
  copy_read n c good = record {
    size = good.size;
    known = good.known;
    copying = good.copying;
    filling = λ e. absurd (let f : Copies ≡ Fills = sym c ∙ e in cc);
  }

-- ## The link

-- the map of all regions has those of each write within the volumes
all_cover : (size : ℕ → ℕ) (x : Write) → IsWholeBlocks x → x.start + length x.bytes / 512 ≤ size x.volume → CoversWrite (whole_map size) x
all_cover size x whole fits v b t =
    let here : (leb x.start b && ltb (512 * (b - x.start)) (length x.bytes)) ≡ true = and_right (eqb v x.volume) (leb x.start b && ltb (512 * (b - x.start)) (length x.bytes)) t in
    let e : v ≡ x.volume = eqb_equal v x.volume (and_left (eqb v x.volume) (leb x.start b && ltb (512 * (b - x.start)) (length x.bytes)) t) in
    subst (λ n. ltb (64 * (b / 64)) (size n) ≡ true) (sym e)
    (inside x.start (length x.bytes) (size x.volume) b whole fits (and_left (leb x.start b) (ltb (512 * (b - x.start)) (length x.bytes)) here)
    (and_right (leb x.start b) (ltb (512 * (b - x.start)) (length x.bytes)) here))
  where
    inside : (start bytes most b : ℕ) → 512 * (bytes / 512) ≡ bytes → start + bytes / 512 ≤ most → leb start b ≡ true → ltb (512 * (b - start)) bytes ≡ true → ltb (64 * (b / 64)) most ≡ true
    inside start bytes most b w f l m = grind (arith, nat_tests)

-- with all regions marked nothing is asked
pub all_marked : (held : List Write) (b : Node) (n : ℕ) → IsBeyond b.base b.start → AllByRecursion (FitsVolumes b.start.size) held → IsMapped held n b.base b.start (whole_map b.start.size)
all_marked held b n beyond fit = record {
  near = λ v c m. beyond v c (past (b.start.size v) c m) ∙ sym (fold_beyond b.start held (each_weaker (FitsVolumes b.start.size) IsWholeBlocks (λ x k. k.0) held fit) v c (past (b.start.size v) c m));
  covers = each_drop (CoversWrite (whole_map b.start.size)) n held
      (each_weaker (FitsVolumes b.start.size) (CoversWrite (whole_map b.start.size)) (λ x k. all_cover b.start.size x k.0 k.1) held fit);
}
  where
    past : (size c : ℕ) → ltb (64 * (c / 64)) size ≡ false → size ≤ c
    past size c e = grind (arith, nat_tests)

-- the end of the copying: the receiver goes on by the log
pub done_acked : (held : List Write) (t : Replays) (b : Node) (stored : ℕ) (map : Regions) (id left start end : ℕ) → b.phase ≡ Fills → GoodPhase held t b map stored Done id left start end
    → GoodMode held t b map start (Replay id ByLogAgain left start end)
done_acked held t b stored map id left start end f (is, le, same, e, fuzzy) = (is, omega arith, same, f)

-- the end of the replay
pub replay_ended : (held : List Write) (t : Replays) (b : Node) (stored : ℕ) (map : Regions) (id left start end number : ℕ) → GoodCopy held t b → end ≤ number → HasStored b number
    → GoodPhase held t b map stored ByLogAgain id left start end → GoodMode held t b no_regions number Log
replay_ended held t b stored map id left start end number copy le disk (is, s, same, f) =
    (disk.1 f (omega (arith, le, (copy.filling f).1, is.3, ap t.read same)), ap phase_takes f, omega (arith, same, is.1))

-- a region is read at the head
pub region_read : (held : List Write) (t : Replays) (b : Node) (stored : ℕ) (map : Regions) (id left start end head : ℕ) → GoodReplays held t → head ≡ length held
    → GoodPhase held t b map stored CopiesRegions id left start end → GoodMode held (read_table t head) b map stored (Replay id CopiesRegions left start head)
region_read held t b stored map id left start end head table now (is, le, same, c, fuzzy) = (
  (is.0, is.1, is.2, sym (by_test (λ n. n ≡ head) (eqb id t.begun) head (t.read id) (λ _. refl) (λ e. absurd (grind (arith, nat_tests, is.1))))),
  le,
  same,
  c,
  fuzzy_longer b.base b.start held start end start head map map (omega arith) (omega (arith, is.1, is.3, now, (table.spans id (omega (arith, is.1))).1)) (within_same map) fuzzy,
)

module _ (held : List Write) (t : Replays) (b : Node) (stored : ℕ) (copy : GoodCopy held t b) where
  -- from what a change map says, or from the map of all regions
  pub start_begun : (map : Regions) (id left head : ℕ) → t.begun < id → head ≡ length held → b.safe ≤ length b.log → IsPrefixOf b.log held → HasStored b stored
      → IsMapped held (certain_of t b) b.base b.start map → GoodMode held (begun_table t id head) b map stored (Replay id Start left head head)
  start_begun map id left head less e fits front disk m = (
    (omega (arith, less), refl, sym new, sym new_read),
    omega (arith, disk.0, fits, prefix_length b.log held front, e),
    refl,
    λ same. absurd (omega (arith, same, copy.known, less)),
    marked_wider held (certain_of (begun_table t id head) b) b.base b.start map (joined_maps map (marks_of_all (drop head held))) (in_left map (marks_of_all (drop head held))) here,
    λ few. subst (λ (xs : List Write). IsMapped xs (certain_of (begun_table t id head) b) b.base b.start map) (sym (take_all head held (omega (arith, e)))) here,
  )
    where
      new : (if leb id t.begun then t.start id else head) ≡ head
      new = by_test (λ n. n ≡ head) (leb id t.begun) (t.start id) head (λ f. absurd (grind (arith, nat_tests))) (λ _. refl)

      new_read : (if leb id t.begun then t.read id else head) ≡ head
      new_read = by_test (λ n. n ≡ head) (leb id t.begun) (t.read id) head (λ f. absurd (grind (arith, nat_tests))) (λ _. refl)

      here : IsMapped held (certain_of (begun_table t id head) b) b.base b.start map
      here = subst (λ n. IsMapped held n b.base b.start map) (sym (ap (λ (k : ℕ). if is_copying b.phase then k else b.safe) ((begun_same t id head).start b.replay copy.known))) m

  -- ### What the receiver acknowledges

  module _ (table : GoodReplays held t) (whole : AllByRecursion IsWholeBlocks held) (beyond : IsBeyond b.base b.start) where
    -- no region is left where the count says so
    go_on : (map : Regions) (id left start end : ℕ) → (left ≡ 0 → NoRegionLeft b.start.size map) → GoodPhase held t b map stored CopiesRegions id left start end
        → GoodMode held t b map stored (copying_on id left start end)
    go_on map id left start end none (is, le, same, c, fuzzy) =
        by_test (λ (m : Mode). GoodMode held t b map stored m) (eqb left 0) (Replay id Done left start end) (Replay id CopiesRegions left start end)
        (λ z. (is, le, same, inl c, λ _. ended (none (eqb_equal left 0 z))))
        (λ _. (is, le, same, c, fuzzy))
      where
        ended : NoRegionLeft b.start.size map → Fuzzy b.base b.start held start end no_regions
        ended empty v w _ = by_size (ltb w (b.start.size v)) refl
          where
            by_size : (p : Bool) → ltb w (b.start.size v) ≡ p → AtSome b.base b.start held start end v w
            by_size true p = fuzzy v w (empty v w (grind (arith, nat_tests)))
            by_size false p = some_beyond b.base b.start held start end v w whole (omega (arith, is.1, is.2, is.3, (table.spans id (omega (arith, is.1))).0)) beyond (grind (arith, nat_tests))

    -- the start: the receiver stands in the replay
    pub start_acked : (map : Regions) (id left start end : ℕ) → b.safe ≤ length b.log → (left ≡ 0 → NoRegionLeft b.start.size map) → b.replay ≡ id → GoodPhase held t b map stored Start id left start end
        → GoodMode held t b map stored (copying_on id left start end)
    start_acked map id left start end fits none same (is, le, ends, own, all, before) =
        let c : b.phase ≡ Copies = own same in
        let few : b.safe ≤ start = omega (arith, fits, (copy.copying c).2, is.2, ap t.start same) in
        go_on map id left start end none (is, le, same, c, near_fuzzy b.base b.start held start end map (omega (arith, ends)) (before few).near)

    -- a region
    pub region_acked : (map : Regions) (id left start end volume region : ℕ) → (left - 1 ≡ 0 → NoRegionLeft b.start.size (without_region map volume region))
        → RegionFuzzy b.base b.start held (t.start id) (t.read id) volume region → GoodPhase held t b map stored CopiesRegions id left start end
        → GoodMode held t b (without_region map volume region) stored (copying_on id (left - 1) start end)
    region_acked map id left start end volume region none inside (is, le, same, c, fuzzy) =
        go_on (without_region map volume region) id (left - 1) start end none (
          is,
          le,
          same,
          c,
          fuzzy_without b.base b.start held start end map volume region whole (omega (arith, is.1, is.2, is.3, (table.spans id (omega (arith, is.1))).0)) beyond
              (region_within b.base b.start held (t.start id) (t.read id) start end volume region (omega (arith, is.2)) (omega (arith, is.3)) inside) fuzzy,
        )

-- what is read then: each block at the head, which the table has as the last reading
pub region_sent : (held : List Write) (line_start : Content) (t : Replays) (content : Content) (volume region head : ℕ) → GoodReplays held t → head ≡ length held → content ≡ fold_writes line_start held
    → RegionFuzzy content line_start held (t.start t.begun) ((read_table t head).read t.begun) volume region
region_sent held line_start t content volume region head table now e v c _ = (
  head,
  omega (arith, now, (table.spans t.begun (omega arith)).0, (table.spans t.begun (omega arith)).1),
  by_test (λ n. head ≤ n) (eqb t.begun t.begun) head (t.read t.begun) (λ _. omega arith) (λ f. absurd (grind (arith, nat_tests))),
  ap (λ (d : Content). d.block v c) e ∙ ap (λ (xs : List Write). (fold_writes line_start xs).block v c) (sym (take_all head held (omega (arith, now)))),
)
