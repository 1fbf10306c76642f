-- Each change of a line, of a replay, of its receiver and of the link to it keeps what the messages between the two say.
use Rattle.std.proofs.Common.{◌≡◌, ◌∙◌, ℕ, ◌≤◌, ◌<◌, List, ◌++◌, length, refl, ap, sym, arith, Bool, true, false, inl, inr}
use Rattle.vx_model.specs.Content.{Write, Content}
use Rattle.vx_model.specs.declared.site.SPhase.TheVariants.{Regions as Copies, Log as Fills}
use Rattle.vx_model.specs.declared.link.Phase.TheVariants.{Regions as CopiesRegions}
use Rattle.vx_model.specs.declared.link.Mode.{Mode}
use Rattle.vx_model.specs.declared.link.Mode.TheVariants.{Replay}
use Rattle.vx_history.specs.World.{Node, Replays, no_regions}
use Rattle.vx_history.specs.CopySteps.{IsReplayOver, RegionFuzzy, SaysCopied, SaysRegion, SaysStart, SaysStored, begun_table, closed_at, entered, is_in_region, read_table, with_part}
use Rattle.vx_history.specs.GoodCopies.{GoodCopy, GoodReplays}
use Rattle.vx_history.specs.Regions.{AtSome, Fuzzy}
use Rattle.vx_history.proofs.Blocks.{region_within, some_blocks}
use Rattle.vx_history.proofs.Fuzzies.{fuzzy_longer, some_grows}
use Rattle.vx_history.proofs.Marking.{within_same}
use Rattle.vx_history.proofs.Replaying.{some_part, start_closed}
use Rattle.vx_history.proofs.ReplayLinks.{begun_same, rises, stays}

-- ## The line grows

module _ (held ys : List Write) (t : Replays) (table : GoodReplays held t) where
  region_more : (d s : Content) (low high volume region : ℕ) → high ≤ length held → RegionFuzzy d s held low high volume region → RegionFuzzy d s (held ++ ys) low high volume region
  region_more d s low high volume region le f v b i = some_grows d s held ys low high v b le (f v b i)

  pub region_said_more : (line_start : Content) (id volume region : ℕ) (blocks : Content) → SaysRegion held line_start t id volume region blocks → SaysRegion (held ++ ys) line_start t id volume region blocks
  region_said_more line_start id volume region blocks (le, f) = (le, region_more blocks line_start (t.start id) (t.read id) volume region (table.spans id le).1 f)

  pub copied_said_more : (n : Node) (mode : Mode) (id start end : ℕ) → n.replay ≤ t.begun → SaysCopied held t n mode id start end → SaysCopied (held ++ ys) t n mode id start end
  copied_said_more n mode id start end known (le, s, e, over, f) =
      (le, s, e, over, λ c r v b m. some_grows n.base n.start held ys (t.start id) (t.read id) v b (table.spans id (omega (arith, le, known))).1 (f c r v b m))

  pub stored_said_more : (n : Node) (id volume region kind : ℕ) → n.replay ≤ t.begun → SaysStored held t n id volume region kind → SaysStored (held ++ ys) t n id volume region kind
  stored_said_more n id volume region kind known (le, f) = (
    le,
    λ r. let s = f r in
        record {
          stands = s.stands;
          copied = λ k e. region_more n.base n.start (t.start id) (t.read id) volume region (table.spans id (omega (arith, le, known))).1 (s.copied k e);
          filled = s.filled;
        },
  )

-- ## A further replay begins

pub start_said_begun : (t : Replays) (id head : ℕ) → t.begun < id → (i start : ℕ) → SaysStart t i start → SaysStart (begun_table t id head) i start
start_said_begun t id head new i start (le, e) = (omega (arith, le, new), omega (arith, e, (begun_same t id head).start i le))

module _ (held : List Write) (t : Replays) (id head : ℕ) (new : t.begun < id) where
  pub region_said_begun : (line_start : Content) (i volume region : ℕ) (blocks : Content) → SaysRegion held line_start t i volume region blocks
      → SaysRegion held line_start (begun_table t id head) i volume region blocks
  region_said_begun line_start i volume region blocks (le, f) =
      let same = begun_same t id head in (
        omega (arith, le, new),
        region_within blocks line_start held (t.start i) (t.read i) ((begun_table t id head).start i) ((begun_table t id head).read i) volume region (omega (arith, same.start i le)) (omega (arith, same.read i le)) f,
      )

  pub copied_said_begun : (n : Node) (mode : Mode) (i start end : ℕ) → n.replay ≤ t.begun → SaysCopied held t n mode i start end → SaysCopied held (begun_table t id head) n mode i start end
  copied_said_begun n mode i start end known (le, s, e, over, f) =
      let same = begun_same t id head in
      let older : i ≤ t.begun = omega (arith, le, known) in (
        le,
        omega (arith, s, same.start i older),
        omega (arith, e, same.read i older),
        over,
        λ c r. fuzzy_longer n.base n.start held (t.start i) (t.read i) ((begun_table t id head).start i) ((begun_table t id head).read i) no_regions no_regions
            (omega (arith, same.start i older)) (omega (arith, same.read i older)) (within_same no_regions) (f c r),
      )

  pub stored_said_begun : (n : Node) (i volume region kind : ℕ) → n.replay ≤ t.begun → SaysStored held t n i volume region kind → SaysStored held (begun_table t id head) n i volume region kind
  stored_said_begun n i volume region kind known (le, f) =
      let same = begun_same t id head in
      let older : i ≤ t.begun = omega (arith, le, known) in (
        le,
        λ r. let s = f r in
            record {
              stands = s.stands;
              copied = λ k e. region_within n.base n.start held (t.start i) (t.read i) ((begun_table t id head).start i) ((begun_table t id head).read i) volume region
                  (omega (arith, same.start i older)) (omega (arith, same.read i older)) (s.copied k e);
              filled = λ k. let d = s.filled k in (d.0, (omega (arith, d.1.0, same.start i older), λ e le. d.1.1 e (omega (arith, le, same.start i older))));
            },
      )

-- ## A region is read, while the receiver of the last replay copies

module _ (held : List Write) (t : Replays) (head : ℕ) (table : GoodReplays held t) (now : head ≡ length held) where
  pub region_said_read : (line_start : Content) (id volume region : ℕ) (blocks : Content) → SaysRegion held line_start t id volume region blocks
      → SaysRegion held line_start (read_table t head) id volume region blocks
  region_said_read line_start id volume region blocks (le, f) =
      (le, region_within blocks line_start held (t.start id) (t.read id) (t.start id) ((read_table t head).read id) volume region (omega arith) (rises held t head table now id le).0 f)

  pub copied_said_read : (n : Node) (id left start end at from to : ℕ) → id ≡ t.begun → SaysCopied held t n (Replay id CopiesRegions left start end) at from to
      → SaysCopied held (read_table t head) n (Replay id CopiesRegions left start head) at from to
  copied_said_read n id left start end at from to is (le, s, e, over, f) =
      let same : (read_table t head).read at ≡ t.read at = stays held t head table now at (omega (arith, over, is)) in
      (le, s, omega (arith, e, same), over, λ c r. fuzzy_longer n.base n.start held (t.start at) (t.read at) (t.start at) ((read_table t head).read at) no_regions no_regions (omega arith) (omega (arith, same)) (within_same no_regions) (f c r))

  pub stored_said_read : (n : Node) (id volume region kind : ℕ) → n.replay ≤ t.begun → SaysStored held t n id volume region kind → SaysStored held (read_table t head) n id volume region kind
  stored_said_read n id volume region kind known (le, f) = (
    le,
    λ r. let s = f r in
        record {
          stands = s.stands;
          copied = λ k e. region_within n.base n.start held (t.start id) (t.read id) (t.start id) ((read_table t head).read id) volume region (omega arith)
              (rises held t head table now id (omega (arith, le, known))).0 (s.copied k e);
          filled = s.filled;
        },
  )

-- ## The receiver takes the start of a later replay

module _ (held : List Write) (t : Replays) (n : Node) (id : ℕ) (new : n.replay < id) where
  pub copied_said_entered : (mode : Mode) (i start end : ℕ) → SaysCopied held t n mode i start end → SaysCopied held t (entered n id) mode i start end
  copied_said_entered mode i start end (le, s, e, over, f) = (omega (arith, le, new), s, e, over, λ c r. absurd (omega (arith, r, le, new)))

  pub stored_said_entered : (i volume region kind : ℕ) → SaysStored held t n i volume region kind → SaysStored held t (entered n id) i volume region kind
  stored_said_entered i volume region kind (le, f) = (omega (arith, le, new), λ r. absurd (omega (arith, r, le, new)))

  -- what it then answers
  pub start_answered : SaysStored held t (entered n id) id 0 0 0
  start_answered = (omega arith, λ _. record { stands = inl refl; copied = λ e. absurd (omega (arith, e)); filled = λ e. absurd (omega (arith, e)) })

-- ## It stores blocks of a region

module _ (held : List Write) (line_start : Content) (t : Replays) (n : Node) (pick : ℕ → ℕ → Bool) (blocks : Content) (table : GoodReplays held t) (copy : GoodCopy held t n) (c : n.phase ≡ Copies)
    (line_size : n.start.size ≡ line_start.size) (inside : (v b : ℕ) → pick v b ≡ true → AtSome blocks line_start held (t.start n.replay) (t.read n.replay) v b) where
  abbrev o : Node
  o = with_part line_start n pick blocks

  some_said : (v b id : ℕ) → n.replay ≡ id → AtSome n.base n.start held (t.start id) (t.read id) v b → AtSome o.base o.start held (t.start id) (t.read id) v b
  some_said v b id same q =
      let p = some_part held line_start t n pick blocks table copy c line_size inside v b (q.0, omega (arith, q.1, ap t.start same), omega (arith, q.2, ap t.read same), q.3) in
      (p.0, omega (arith, p.1, ap t.start same), omega (arith, p.2, ap t.read same), p.3)

  pub copied_said_part : (mode : Mode) (id start end : ℕ) → SaysCopied held t n mode id start end → SaysCopied held t o mode id start end
  copied_said_part mode id start end (le, s, e, over, f) = (le, s, e, over, λ k r v b m. some_said v b id r (f k r v b m))

  pub stored_said_part : (id volume region kind : ℕ) → SaysStored held t n id volume region kind → SaysStored held t o id volume region kind
  stored_said_part id volume region kind (le, f) = (
    le,
    λ same. let s = f same in record { stands = s.stands; copied = λ k e v b i. some_said v b id same (s.copied k e v b i); filled = s.filled },
  )

  -- what it answers where it has stored the whole region
  pub region_answered : (volume region : ℕ) → ((v b : ℕ) → is_in_region n.start.size volume region v b ≡ true → pick v b ≡ true) → SaysStored held t o n.replay volume region 1
  region_answered volume region whole = (
    omega arith,
    λ _. record {
      stands = inl c;
      copied = λ _ _ v b i. some_blocks n.base n.start blocks line_start held (t.start n.replay) (t.read n.replay) pick v b line_size (inside v b)
          (λ out. absurd (let e : true ≡ false = sym (whole v b i) ∙ out in cc));
      filled = λ e. absurd (omega (arith, e));
    },
  )

-- ## It takes the end of the copying

pub copied_said_closed : (held : List Write) (t : Replays) (n : Node) (start end : ℕ) (mode : Mode) (id from to : ℕ) → SaysCopied held t n mode id from to → SaysCopied held t (closed_at held n start end) mode id from to
copied_said_closed held t n start end mode id from to (le, s, e, over, f) = (le, s, e, over, λ k. absurd (cc))

pub stored_said_closed : (held : List Write) (t : Replays) (n : Node) (start end : ℕ) → n.phase ≡ Copies → (id volume region kind : ℕ) → SaysStored held t n id volume region kind
    → SaysStored held t (closed_at held n start end) id volume region kind
stored_said_closed held t n start end c id volume region kind (le, f) = (
  le,
  λ same. let s = f same in
      record {
        stands = inr refl;
        copied = λ k e. absurd (cc);
        filled = λ k. absurd (let g : Copies ≡ Fills = sym c ∙ (s.filled k).0 in cc);
      },
)

-- what it then answers
pub done_answered : (held : List Write) (t : Replays) (n : Node) (start end : ℕ) → GoodReplays held t → n.safe ≤ length n.log → GoodCopy held t n → n.phase ≡ Copies → start ≡ t.start n.replay → end ≡ t.read n.replay
    → Fuzzy n.base n.start held (t.start n.replay) (t.read n.replay) no_regions → SaysStored held t (closed_at held n start end) n.replay 0 0 2
done_answered held t n start end table fits copy c is_start is_end fuzzy = (
  omega arith,
  λ _. record {
    stands = inr refl;
    copied = λ e. absurd (omega (arith, e));
    filled = λ _. (refl, start_closed held t n start end table fits copy c is_start is_end fuzzy);
  },
)

-- a link that goes on copies no region of an earlier replay again
pub copied_said_over : (held : List Write) (t : Replays) (n : Node) (mode next : Mode) (id start end : ℕ) → ((i : ℕ) → i ≤ n.replay → IsReplayOver mode i → IsReplayOver next i) → SaysCopied held t n mode id start end
    → SaysCopied held t n next id start end
copied_said_over held t n mode next id start end over (le, s, e, o, f) = (le, s, e, over id le o, f)
