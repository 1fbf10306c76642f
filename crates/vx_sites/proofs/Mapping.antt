-- What is made of the change maps of links.
use Rattle.std.proofs.Common.{◌≡◌, ◌∙◌, ◌⊎◌, inl, inr, ℕ, ◌+◌, ◌<◌, ◌≤◌, Bool, true, false, List, [], ◌∷◌, ◌++◌, length, get_or, take, refl, sym, ap, arith}
use Rattle.std.specs.Prelude.{eqb, ltb, if◌then◌else◌, ◌||◌, Result, Ok, Err, OnOk}
use Rattle.std.proofs.Math.ListN.{set}
use Rattle.std.proofs.Math.Path.{fun_ext}
use Rattle.std.proofs.lemmas.Bool.Decides.{nat_tests}
use Rattle.std.proofs.lemmas.List.{take_more}
use Rattle.vx_model.specs.Content.{Write}
use Rattle.vx_history.specs.World.{Node as PlainNode, Link as PlainLink, World as PlainWorld, Regions, no_link, no_regions, updated}
use Rattle.vx_history.specs.Regions.{joined_maps, marks_of, marks_of_all}
use Rattle.vx_history.specs.Sends.{with_link, with_links}
use Rattle.vx_history.specs.ChangeMaps.{map_after, map_changed, map_kept}
use Rattle.vx_history.specs.declared.admission.Change.{Change}
use Rattle.vx_history.specs.declared.admission.Change.TheVariants.{Stays, ToStale}
use Rattle.vx_model.specs.declared.link.Mode.{Mode}
use Rattle.vx_model.specs.declared.link.Mode.TheVariants.{Log, Dcm, Replay, Fork, Stale}
use Rattle.vx_history.specs.Events.{link_after, link_marked, links_marked}
use Rattle.vx_history.proofs.Updates.{at_place, by_test, eqb_equal, updated_other}
use Rattle.vx_sites.specs.declared.link.Link.{Link}
use Rattle.vx_sites.specs.declared.link.Row.{Row}
use Rattle.vx_sites.specs.declared.maps.MapEntry.{MapEntry}
use Rattle.vx_sites.specs.Shapes.{link_of, row_of, links_of, maps_made, maps_from, link_maps, mapped_links, marks_at, with_map, with_link_map}
use Rattle.vx_sites.specs.Rows.{is_copied, keeps_map, map_let_in, row_turned}
use Rattle.vx_sites.proofs.Tables.{at_each, changed_below, changed-more, seen-at, seen-beyond, seen-set, updated-same}

-- ## One change more

pub maps_more : (maps : ℕ → ℕ → Regions) (es : List MapEntry) (e : MapEntry) → maps_from maps (es ++ e ∷ []) ≡ maps_made e (maps_from maps es)
maps_more maps [] e = refl
maps_more maps (d ∷ es) e = maps_more (maps_made d maps) es e

-- the value at a place is put there again
pub updated-twice : {A : Type 0} (f : ℕ → A) (i : ℕ) (x y : A) → updated (updated f i x) i y ≡ updated f i y
updated-twice f i x y = at_each f i y (updated (updated f i x) i y) (at_place (updated f i x) i y) (λ k apart. updated_other (updated f i x) i k y apart ∙ updated_other f i k x apart)

-- the map of one link is changed twice
pub marks_twice : (maps : ℕ → ℕ → Regions) (p s : ℕ) (a b : Regions) → with_link_map (with_link_map maps p s a) p s b ≡ with_link_map maps p s b
marks_twice maps p s a b =
    ap (λ (row : ℕ → Regions). updated (updated maps p (updated (maps p) s a)) p (updated row s b)) (at_place maps p (updated (maps p) s a))
    ∙ ap (λ (row : ℕ → Regions). updated (updated maps p (updated (maps p) s a)) p row) (updated-twice (maps p) s a b)
    ∙ updated-twice maps p (updated (maps p) s a) (updated (maps p) s b)

pub marks_here : (maps : ℕ → ℕ → Regions) (p s : ℕ) (a : Regions) → with_link_map maps p s a p s ≡ a
marks_here maps p s a = ap (λ (row : ℕ → Regions). row s) (at_place maps p (updated (maps p) s a)) ∙ at_place (maps p) s a

-- the map is put into its place again
pub marks_same : (maps : ℕ → ℕ → Regions) (p s : ℕ) (map : Regions) → map ≡ maps p s → maps ≡ with_link_map maps p s map
marks_same maps p s map is =
    sym (ap (λ (row : ℕ → Regions). updated maps p row) (updated-same (maps p) s map (sym is)) ∙ updated-same maps p (maps p) refl)

-- the map of one link is changed, and then once more by what stands there
pub marks_then : (now : ℕ → ℕ → Regions) (maps : ℕ → ℕ → Regions) (p s : ℕ) (a : Regions) (g : Regions → Regions) (next : ℕ → ℕ → Regions)
    → now ≡ with_link_map maps p s a → next ≡ with_link_map now p s (g (now p s)) → next ≡ with_link_map maps p s (g a)
marks_then now maps p s a g next is next_is =
    next_is
    ∙ ap (λ (m : ℕ → ℕ → Regions). with_link_map m p s (g (m p s))) is
    ∙ ap (λ (b : Regions). with_link_map (with_link_map maps p s a) p s (g b)) (marks_here maps p s a)
    ∙ marks_twice maps p s a (g a)

-- ## The regions of writes, one after another

pub joined_none : (map : Regions) (xs : List Write) → xs ≡ [] → joined_maps map (marks_of_all xs) ≡ map
joined_none map xs is =
    ap (λ (ys : List Write). joined_maps map (marks_of_all ys)) is ∙ fun_ext (λ v. fun_ext (λ r. or_false (map v r)))
  where
    or_false : (b : Bool) → (b || false) ≡ b
    or_false true = refl
    or_false false = refl

marks_append : (map : Regions) (xs : List Write) (x : Write) → joined_maps map (marks_of_all (xs ++ x ∷ [])) ≡ joined_maps (joined_maps map (marks_of_all xs)) (marks_of x)
marks_append map xs x = fun_ext (λ v. fun_ext (λ r. ap (λ (b : Bool). map v r || b) (last xs v r) ∙ or_apart (map v r) (marks_of_all xs v r) (marks_of x v r)))
  where
    or_apart : (a b c : Bool) → (a || (b || c)) ≡ ((a || b) || c)
    or_apart true b c = refl
    or_apart false b c = refl

    or_false : (b : Bool) → (b || false) ≡ b
    or_false true = refl
    or_false false = refl

    last : (ys : List Write) (v r : ℕ) → marks_of_all (ys ++ x ∷ []) v r ≡ (marks_of_all ys v r || marks_of x v r)
    last [] v r = or_false (marks_of x v r)
    last (y ∷ ys) v r = ap (λ (b : Bool). marks_of y v r || b) (last ys v r) ∙ or_apart (marks_of y v r) (marks_of_all ys v r) (marks_of x v r)

pub marks_are : (x : Write) (volume start bytes : ℕ) → volume ≡ x.volume → start ≡ x.start → bytes ≡ length x.bytes → marks_at volume start bytes ≡ marks_of x
marks_are x volume start bytes v s b =
    ap (λ (k : ℕ). marks_at k start bytes) v ∙ ap (λ (k : ℕ). marks_at x.volume k bytes) s ∙ ap (λ (k : ℕ). marks_at x.volume x.start k) b

pub writes_marked : (maps now next : ℕ → ℕ → Regions) (p s : ℕ) (xs : List Write) (i : ℕ) (x : Write) → i < length xs → x ≡ get_or xs i x
    → now ≡ with_link_map maps p s (joined_maps (maps p s) (marks_of_all (take i xs))) → next ≡ with_link_map now p s (joined_maps (now p s) (marks_of x))
    → next ≡ with_link_map maps p s (joined_maps (maps p s) (marks_of_all (take (i + 1) xs)))
writes_marked maps now next p s xs i x lt is before next_is =
    marks_then now maps p s (joined_maps (maps p s) (marks_of_all (take i xs))) (λ (m : Regions). joined_maps m (marks_of x)) next before next_is
    ∙ ap (λ (m : Regions). with_link_map maps p s m) (sym (marks_append (maps p s) (take i xs) x))
    ∙ ap (λ (ys : List Write). with_link_map maps p s (joined_maps (maps p s) (marks_of_all ys))) (sym (take_more xs i x lt ∙ ap (λ (y : Write). take i xs ++ y ∷ []) (sym is)))

-- ## The maps of the links of one site

-- those below a number are changed
pub row_step : (change : ℕ → Regions → Regions) (maps now next : ℕ → ℕ → Regions) (p i : ℕ) → now ≡ updated maps p (changed_below change i (maps p))
    → next ≡ with_link_map now p i (change i (now p i)) → next ≡ updated maps p (changed_below change (i + 1) (maps p))
row_step change maps now next p i before next_is =
    let row : ℕ → Regions = changed_below change i (maps p) in
    next_is
    ∙ ap (λ (m : ℕ → ℕ → Regions). updated m p (updated (m p) i (change i (m p i)))) before
    ∙ ap (λ (r : ℕ → Regions). updated (updated maps p row) p (updated r i (change i (r i)))) (at_place maps p row)
    ∙ updated-twice maps p row (updated row i (change i (row i)))
    ∙ ap (λ (r : ℕ → Regions). updated maps p r) (changed-more change i (maps p) row refl)

-- all are, where beyond the end none changes
pub row_done : (change : ℕ → Regions → Regions) (maps now : ℕ → ℕ → Regions) (p n : ℕ) → now ≡ updated maps p (changed_below change n (maps p))
    → ((k : ℕ) (m : Regions) → n ≤ k → change k m ≡ m) → now ≡ row_turned maps p change
row_done change maps now p n is same =
    is ∙ ap (λ (r : ℕ → Regions). updated maps p r) (fun_ext (λ k. by_test (λ (y : Regions). y ≡ change k (maps p k)) (ltb k n) (change k (maps p k)) (maps p k) (λ e. refl) (λ e. beyond k e)))
  where
    beyond : (k : ℕ) → ltb k n ≡ false → maps p k ≡ change k (maps p k)
    beyond k e = let past : n ≤ k = grind (arith, nat_tests) in sym (same k (maps p k) past)

pub row_begun : (change : ℕ → Regions → Regions) (maps : ℕ → ℕ → Regions) (p : ℕ) → maps ≡ updated maps p (changed_below change 0 (maps p))
row_begun change maps p = sym (updated-same maps p (changed_below change 0 (maps p)) (fun_ext (λ k. let past : ltb k 0 ≡ false = grind (arith, nat_tests) in sym (ap (λ (b : Bool). if b then change k (maps p k) else maps p k) past))))

-- a place beyond the end of a row has no link
pub row_beyond : (links : List Link) (k : ℕ) → length links ≤ k → row_of links k ≡ no_link
row_beyond links k past = seen-beyond link_of no_link links k past

pub row_at : (links : List Link) (k : ℕ) (l : Link) → k < length links → l ≡ get_or links k l → row_of links k ≡ link_of l
row_at links k l lt is = seen-at link_of no_link links k l lt is

-- ## The links of a site, with their maps

-- links with these maps
abbrev pub row_with : (ℕ → Regions) → (ℕ → PlainLink) → ℕ → PlainLink
row_with maps row s = with_map (maps s) (row s)

abbrev pub rows_with : (ℕ → ℕ → Regions) → (ℕ → ℕ → PlainLink) → ℕ → ℕ → PlainLink
rows_with maps links k = row_with (maps k) (links k)

pub links_turned : (maps : ℕ → ℕ → Regions) (links : ℕ → ℕ → PlainLink) (p : ℕ) (turned : ℕ → Regions) (row target : ℕ → PlainLink)
    → ((s : ℕ) → with_map (turned s) (row s) ≡ target s) → rows_with (updated maps p turned) (updated links p row) ≡ updated (rows_with maps links) p target
links_turned maps links p turned row target each =
    at_each (rows_with maps links) p target (rows_with (updated maps p turned) (updated links p row))
    (ap (λ (m : ℕ → Regions). row_with m (updated links p row p)) (at_place maps p turned)
    ∙ ap (λ (r : ℕ → PlainLink). row_with turned r) (at_place links p row)
    ∙ fun_ext each)
    (λ k apart.
    ap (λ (m : ℕ → Regions). row_with m (updated links p row k)) (updated_other maps p k turned apart)
    ∙ ap (λ (r : ℕ → PlainLink). row_with (maps k) r) (updated_other links p k row apart))

-- in the world
pub world_turned : (w : PlainWorld) (before now : List MapEntry) (old rows : List Row) (p : ℕ) (turned : ℕ → Regions) (row target : ℕ → PlainLink)
    → mapped_links before old ≡ w.links → link_maps now ≡ updated (link_maps before) p turned → links_of rows ≡ updated (links_of old) p row
    → ((s : ℕ) → with_map (turned s) (row s) ≡ target s)
    → (let new : PlainWorld = record w { links = mapped_links now rows } in new) ≡ with_links w p target
world_turned w before now old rows p turned row target same maps links each =
    ap (λ (f : ℕ → ℕ → PlainLink). let new : PlainWorld = record w { links = f } in new)
    (ap (λ (m : ℕ → ℕ → Regions). rows_with m (links_of rows)) maps
    ∙ ap (λ (l : ℕ → ℕ → PlainLink). rows_with (updated (link_maps before) p turned) l) links
    ∙ links_turned (link_maps before) (links_of old) p turned row target each
    ∙ ap (λ (l : ℕ → ℕ → PlainLink). updated l p target) same)

-- one row in the place of another
pub rows_set : (rows : List Row) (p : ℕ) (x : Row) → p < length rows → links_of (set rows p x) ≡ updated (links_of rows) p (row_of x.links.items)
rows_set rows p x lt = seen-set (λ (r : Row). row_of r.links.items) (λ (s : ℕ). no_link) rows p x lt

pub rows_at : (rows : List Row) (p : ℕ) (v : Row) → p < length rows → v ≡ get_or rows p v → links_of rows p ≡ row_of v.links.items
rows_at rows p v lt is = seen-at (λ (r : Row). row_of r.links.items) (λ (s : ℕ). no_link) rows p v lt is

-- a site without a row has no links
pub rows_beyond : (rows : List Row) (p : ℕ) → length rows ≤ p → links_of rows p ≡ (λ s. no_link)
rows_beyond rows p past = seen-beyond (λ (r : Row). row_of r.links.items) (λ (s : ℕ). no_link) rows p past

-- a link is put into its place, and its map stays
pub link_put : (w : PlainWorld) (entries : List MapEntry) (rows : List Row) (p to : ℕ) (v x : Row) (l : Link) → mapped_links entries rows ≡ w.links
    → p < length rows → v ≡ get_or rows p v → row_of x.links.items ≡ updated (row_of v.links.items) to (link_of l)
    → (let new : PlainWorld = record w { links = mapped_links entries (set rows p x) } in new) ≡ with_link w p to (with_map (w.links p to).map (link_of l))
link_put w entries rows p to v x l same lt is put =
    let maps : ℕ → ℕ → Regions = link_maps entries in
    let own : ℕ → PlainLink = links_of rows p in
    world_turned w entries entries rows (set rows p x) p (maps p) (updated own to (link_of l)) (updated (w.links p) to (with_map (w.links p to).map (link_of l))) same
    (sym (updated-same maps p (maps p) refl))
    (rows_set rows p x lt ∙ ap (λ (r : ℕ → PlainLink). updated (links_of rows) p r) (put ∙ ap (λ (r : ℕ → PlainLink). updated r to (link_of l)) (sym (rows_at rows p v lt is))))
    (λ s. by_place s ∙ ap (λ (f : ℕ → ℕ → PlainLink). updated (f p) to (with_map (f p to).map (link_of l)) s) same)
  where
    by_place : (s : ℕ) → with_map (link_maps entries p s) (updated (links_of rows p) to (link_of l) s) ≡ updated (mapped_links entries rows p) to (with_map (link_maps entries p to) (link_of l)) s
    by_place s = by_case (eqb s to) refl
      where
        by_case : (b : Bool) → eqb s to ≡ b → with_map (link_maps entries p s) (if b then link_of l else links_of rows p s) ≡ (if b then with_map (link_maps entries p to) (link_of l) else mapped_links entries rows p s)
        by_case true e = ap (λ (k : ℕ). with_map (link_maps entries p k) (link_of l)) (eqb_equal s to e)
        by_case false e = refl

-- a link is put into its place, and no region is marked
pub link_renewed : (w : PlainWorld) (entries now : List MapEntry) (rows : List Row) (p to : ℕ) (v x : Row) (l : Link) → mapped_links entries rows ≡ w.links
    → link_maps now ≡ with_link_map (link_maps entries) p to no_regions
    → p < length rows → v ≡ get_or rows p v → row_of x.links.items ≡ updated (row_of v.links.items) to (link_of l)
    → (let new : PlainWorld = record w { links = mapped_links now (set rows p x) } in new) ≡ with_link w p to (link_of l)
link_renewed w entries now rows p to v x l same cleared lt is put =
    let maps : ℕ → ℕ → Regions = link_maps entries in
    let own : ℕ → PlainLink = links_of rows p in
    world_turned w entries now rows (set rows p x) p (updated (maps p) to no_regions) (updated own to (link_of l)) (updated (w.links p) to (link_of l)) same cleared
    (rows_set rows p x lt ∙ ap (λ (r : ℕ → PlainLink). updated (links_of rows) p r) (put ∙ ap (λ (r : ℕ → PlainLink). updated r to (link_of l)) (sym (rows_at rows p v lt is))))
    (λ s. by_case s (eqb s to) ∙ ap (λ (f : ℕ → ℕ → PlainLink). updated (f p) to (link_of l) s) same)
  where
    by_case : (s : ℕ) (b : Bool) → with_map (if b then no_regions else link_maps entries p s) (if b then link_of l else links_of rows p s) ≡ (if b then link_of l else mapped_links entries rows p s)
    by_case s true = refl
    by_case s false = refl

-- writes of a site are let in
pub row_let_in : (w : PlainWorld) (entries now : List MapEntry) (rows : List Row) (p : ℕ) (v x : Row) (n : PlainNode) (write : Write) → mapped_links entries rows ≡ w.links → p < length rows
    → v ≡ get_or rows p v → link_maps now ≡ row_turned (link_maps entries) p (λ k. map_let_in n write k (row_of v.links.items k))
    → row_of x.links.items ≡ (λ k. with_map no_regions (link_after n write k (row_of v.links.items k)))
    → (let new : PlainWorld = record w { links = mapped_links now (set rows p x) } in new) ≡ with_links w p (λ k. link_after n write k (w.links p k))
row_let_in w entries now rows p v x n write same lt is maps changed =
    let own : ℕ → PlainLink = row_of v.links.items in
    world_turned w entries now rows (set rows p x) p (λ k. map_let_in n write k (own k) (link_maps entries p k)) (λ k. with_map no_regions (link_after n write k (own k)))
    (λ k. link_after n write k (w.links p k)) same maps
    (rows_set rows p x lt ∙ ap (λ (r : ℕ → PlainLink). updated (links_of rows) p r) changed)
    (λ s.
    ap (λ (r : ℕ → PlainLink). link_after n write s (with_map (link_maps entries p s) (r s))) (sym (rows_at rows p v lt is))
    ∙ ap (λ (f : ℕ → ℕ → PlainLink). link_after n write s (f p s)) same)

-- writes of a site are marked
pub row_marked : (w : PlainWorld) (entries now : List MapEntry) (rows : List Row) (p : ℕ) (v : Row) (writes : List Write) → mapped_links entries rows ≡ w.links → p < length rows
    → v ≡ get_or rows p v → link_maps now ≡ row_turned (link_maps entries) p (λ k m. map_after (row_of v.links.items k).mode m writes)
    → (let new : PlainWorld = record w { links = mapped_links now rows } in new) ≡ links_marked w p writes
row_marked w entries now rows p v writes same lt is maps =
    let own : ℕ → PlainLink = row_of v.links.items in
    world_turned w entries now rows rows p (λ k. map_after (own k).mode (link_maps entries p k) writes) (links_of rows p) (λ k. link_marked writes (w.links p k)) same maps
    (sym (updated-same (links_of rows) p (links_of rows p) refl))
    (λ s.
    ap (λ (r : ℕ → PlainLink). with_map (map_after (r s).mode (link_maps entries p s) writes) (links_of rows p s)) (sym (rows_at rows p v lt is))
    ∙ ap (λ (f : ℕ → ℕ → PlainLink). link_marked writes (f p s)) same)

-- a site without a row has nothing to change
pub row_none : (w : PlainWorld) (entries : List MapEntry) (rows : List Row) (p : ℕ) (change : ℕ → PlainLink → PlainLink) → mapped_links entries rows ≡ w.links → length rows ≤ p
    → ((k : ℕ) (m : Regions) → change k (with_map m no_link) ≡ with_map m no_link) → w ≡ with_links w p (λ k. change k (w.links p k))
row_none w entries rows p change same past stays =
    sym (ap (λ (f : ℕ → ℕ → PlainLink). let new : PlainWorld = record w { links = f } in new) (updated-same w.links p (λ k. change k (w.links p k)) (fun_ext each)))
  where
    each : (k : ℕ) → w.links p k ≡ change k (w.links p k)
    each k =
        ap (λ (f : ℕ → ℕ → PlainLink). f p k) (sym same)
        ∙ ap (λ (r : ℕ → PlainLink). with_map (link_maps entries p k) (r k)) (rows_beyond rows p past)
        ∙ sym (stays k (link_maps entries p k))
        ∙ ap (λ (r : ℕ → PlainLink). change k (with_map (link_maps entries p k) (r k))) (sym (rows_beyond rows p past))
        ∙ ap (λ (f : ℕ → ℕ → PlainLink). change k (f p k)) same

-- what holds of a result holds in other words
pub on_ok : {T E : Type 0} (r : Result T E) (A B : Type 0) → OnOk r A → (A → B) → OnOk r B
on_ok (Ok x) A B h f = f h
on_ok (Err e) A B h f = tt

-- a change that makes no map leaves it
pub unmapped : (h : Change) (mode : Mode) (map : Regions) (log : List Write) (hold : ℕ) → (h ≡ Stays) ⊎ (h ≡ ToStale) → map_changed h mode map log hold ≡ map
unmapped h mode map log hold (inl e) = ap (λ (x : Change). map_changed x mode map log hold) e
unmapped h mode map log hold (inr e) = ap (λ (x : Change). map_changed x mode map log hold) e

pub kept_in : (mode : Mode) (map : Regions) → is_copied mode ≡ true → map ≡ map_kept mode map
kept_in Log map e = absurd (cc)
kept_in Dcm map e = absurd (cc)
kept_in (Replay id phase left start end) map e = refl
kept_in (Fork maps) map e = absurd (cc)
kept_in Stale map e = absurd (cc)

pub kept_none : (mode : Mode) (map : Regions) → is_copied mode ≡ false → no_regions ≡ map_kept mode map
kept_none Log map e = refl
kept_none Dcm map e = refl
kept_none (Replay id phase left start end) map e = absurd (cc)
kept_none (Fork maps) map e = refl
kept_none Stale map e = refl

pub after_marked : (mode : Mode) (map : Regions) (xs : List Write) → keeps_map mode ≡ true → joined_maps map (marks_of_all xs) ≡ map_after mode map xs
after_marked Log map xs e = absurd (cc)
after_marked Dcm map xs e = refl
after_marked (Replay id phase left start end) map xs e = absurd (cc)
after_marked (Fork maps) map xs e = refl
after_marked Stale map xs e = absurd (cc)

pub after_same : (mode : Mode) (map : Regions) (xs : List Write) → keeps_map mode ≡ false → map_after mode map xs ≡ map
after_same Log map xs e = refl
after_same Dcm map xs e = absurd (cc)
after_same (Replay id phase left start end) map xs e = refl
after_same (Fork maps) map xs e = absurd (cc)
after_same Stale map xs e = refl
