-- What replays say stays so as a line grows.
use Rattle.std.proofs.Common.{◌≡◌, ℕ, ◌≤◌, List, ◌++◌, length, drop, refl, sym, subst, arith, length-append}
use Rattle.std.specs.Prelude.{max}
use Rattle.std.specs.List.{AllByRecursion}
use Rattle.std.proofs.lemmas.List.{take-append-le}
use Rattle.vx_model.specs.Content.{Write, Content, IsPrefixOf}
use Rattle.vx_model.specs.declared.link.Phase.{Phase}
use Rattle.vx_model.specs.declared.link.Phase.TheVariants.{Start, Regions as CopiesRegions, Done, Log as ByLogAgain}
use Rattle.vx_model.specs.declared.link.Mode.{Mode}
use Rattle.vx_model.specs.declared.link.Mode.TheVariants.{Log, Dcm, Replay, Fork, Stale}
use Rattle.vx_history.specs.World.{Node, Regions, Replays, no_regions}
use Rattle.vx_history.specs.Regions.{CoversWrite, Fuzzy, IsMapped, joined_maps, marks_of_all}
use Rattle.vx_history.specs.GoodCopies.{GoodCopy, GoodMode, GoodPhase, GoodReplays, certain_of}
use Rattle.vx_history.proofs.Each.{prefix_length}
use Rattle.vx_history.proofs.Fuzzies.{some_grows}
use Rattle.vx_history.proofs.Marking.{joined_wider, late_cover_more, marked_grows, marked_wider, marks_drop_more, within_same}

-- the line has these writes behind those that it held
module _ (held ys : List Write) (t : Replays) (table : GoodReplays held t) where
  pub replays_more : GoodReplays (held ++ ys) t
  replays_more = record {
    spans = λ i le. let p = table.spans i le in (p.0, omega (arith, p.1, length-append held ys));
    rise = table.rise;
  }

  fuzzy_more : (c s : Content) (low high : ℕ) (map : Regions) → high ≤ length held → Fuzzy c s held low high map → Fuzzy c s (held ++ ys) low high map
  fuzzy_more c s low high map le f v b m = some_grows c s held ys low high v b le (f v b m)

  pub copy_more : (n : Node) → n.safe ≤ length n.log → IsPrefixOf n.log held → GoodCopy held t n → GoodCopy (held ++ ys) t n
  copy_more n fits front good = record {
    size = good.size;
    known = good.known;
    copying = good.copying;
    filling = λ e.
        let f = good.filling e in
        let ends : n.end ≤ length held = omega (arith, f.1, (table.spans n.replay good.known).1) in
        (f.0, f.1, fuzzy_more n.base n.start n.safe (max n.end n.safe) no_regions (omega (arith, ends, fits, prefix_length n.log held front)) f.2);
  }

  phase_more : (n : Node) (map : Regions) (stored : ℕ) (phase : Phase) (id left start end : ℕ) → GoodPhase held t n map stored phase id left start end
      → GoodPhase (held ++ ys) t n map stored phase id left start end
  phase_more n map stored Start id left start end (is, le, ends, own, all, before) =
      let short : start ≤ length held = omega (arith, is.2, is.1, (table.spans id (omega (arith, is.1))).0, (table.spans id (omega (arith, is.1))).1) in
      let wide : Regions = joined_maps map (marks_of_all (drop start (held ++ ys))) in (
        is,
        le,
        ends,
        own,
        marked_grows held ys (certain_of t n) n.base n.start wide (late_cover_more map start held ys short)
            (marked_wider held (certain_of t n) n.base n.start (joined_maps map (marks_of_all (drop start held))) wide
            (joined_wider map (marks_of_all (drop start held)) map (marks_of_all (drop start (held ++ ys))) (within_same map) (marks_drop_more start held ys)) all),
        λ few. subst (λ (xs : List Write). IsMapped xs (certain_of t n) n.base n.start map) (sym (take-append-le start held ys short)) (before few),
      )
  phase_more n map stored CopiesRegions id left start end (is, le, same, e, fuzzy) =
      (is, le, same, e, fuzzy_more n.base n.start start end map (omega (arith, is.1, is.3, (table.spans id (omega (arith, is.1))).1)) fuzzy)
  phase_more n map stored Done id left start end (is, le, same, e, fuzzy) =
      (is, le, same, e, λ c. fuzzy_more n.base n.start start end no_regions (omega (arith, is.1, is.3, (table.spans id (omega (arith, is.1))).1)) (fuzzy c))
  phase_more n map stored ByLogAgain id left start end (is, le, same, e) = (is, le, same, e)

  -- a change map has to cover the further writes
  pub mode_more : (n : Node) (map : Regions) (stored : ℕ) (mode : Mode) → (mode ≡ Dcm → AllByRecursion (CoversWrite map) ys) → GoodMode held t n map stored mode
      → GoodMode (held ++ ys) t n map stored mode
  mode_more n map stored Log cover good = good
  mode_more n map stored Dcm cover good = marked_grows held ys (certain_of t n) n.base n.start map (cover refl) good
  mode_more n map stored (Replay id phase left start end) cover good = phase_more n map stored phase id left start end good
  mode_more n map stored (Fork maps) cover good = good
  mode_more n map stored Stale cover good = good
