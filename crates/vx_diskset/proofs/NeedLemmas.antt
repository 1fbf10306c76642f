-- What links need of a log, and what its records take, past changes of the log.
use Rattle.std.proofs.Common.{◌≡◌, ◌∙◌, ⊎_elim, ℕ, zero, suc, ◌+◌, ◌-◌, ◌*◌, ◌<◌, ◌≤◌, List, [], ◌∷◌, ◌++◌, length, drop, map, replicate, ap, sym, subst, refl, arith, length-append, append-nil}
use Rattle.std.specs.Prelude.{IsTrue, true, false, Some, None, min, slice_get}
use Rattle.std.proofs.lemmas.Bool.{cases_lt}
use Rattle.std.proofs.lemmas.List.{drop-append-le, drop-drop, drop-map, drop_all, length-map, length-replicate}
use Rattle.std.proofs.Math.Seq.{drop-append-add}
use Rattle.vx_model.specs.Content.{Write, blocks_in}
use Rattle.vx_model.specs.Sites.{is_origin}
use Rattle.vx_model.specs.declared.state.KeptLink.{KeptLink}
use Rattle.vx_diskset.specs.Holds.{site_alone, KeptBeside}
use Rattle.vx_disk.specs.Shelf.{Meaning}
use Rattle.vx_rvg.proofs.FetchGives.{taken_above}
use Rattle.vx_rvg.specs.Holdings.{Holding}
use Rattle.vx_rvg.specs.Stands.{Stands}
use Rattle.vx_rvg.specs.Views.{Core, IsSound, last_of}
use Rattle.vx_srl.proofs.Shared_S1.{widths_append}
use Rattle.vx_srl.specs.Views.{Log, count_to, blocks_above, widths, width_of}
use Rattle.vx_srl.specs.declared.kept.Kept.{Kept}
use Rattle.vx_history.specs.Events.{logged_blocks}
use Rattle.vx_history.specs.World.{Node}
use Rattle.vx_model.specs.declared.site.SiteState.TheVariants.{Bare as IsBare, Up as IsUp, Down as IsDown}
use Rattle.vx_disk.specs.declared.shelf.Shelf.{Ghosts}
use Rattle.vx_diskset.specs.declared.disk_set.DiskSet.{DiskSet}
use Rattle.vx_diskset.specs.declared.disk_set.DiskSet.TheVariants.{Bare, Spoiled, Up, Receives, Down, OfGroup, Over, Gone}
use Rattle.vx_diskset.specs.declared.over_set.OverSite.{OverSite}
use Rattle.vx_diskset.specs.declared.over_set.OverSite.TheVariants.{Origin as OriginSite, Receiver as ReceiverSite, Deported as GroupAway, Down as GroupFell, Gone as NoGroup}
use Rattle.vx_diskset.specs.DiskSets.{CanWrite}
use Rattle.vx_diskset.specs.Needs.{HasRoom, NoneNeeds, TakesAs, hold_of, is_needing}
use Rattle.vx_model.specs.declared.state.State.{State}
use Rattle.vx_diskset.specs.Stands.{IsUpAt, StandsAlone, OverStands}
use Rattle.vx_diskset.proofs.GroupStands.{up_has_none}
use Rattle.vx_diskset.proofs.ExactWrite.{taken_push, taken_same}

-- ---- what links need

pub none_of : (links : List KeptLink) (number : ℕ) → links ≡ [] → NoneNeeds links number
none_of links number is = subst (λ (ls : List KeptLink). NoneNeeds ls number) (sym is) (record { each = λ k l there needs. absurd (never there) })
  where
    never : {A : Type 0} {x : A} → None ≡ Some x → ⊥
    never e = cc

pub needs_less : (links : List KeptLink) (a b : ℕ) → b ≤ a → NoneNeeds links a → NoneNeeds links b
needs_less links a b le none = record { each = λ k l there needs. let far = none.each k l there needs in omega (arith, far, le) }

-- ---- what writes take

taken_tail : (k : ℕ) (xs : List Write) → logged_blocks (drop k xs) ≤ logged_blocks xs
taken_tail zero [] = omega arith
taken_tail zero (x ∷ xs) = omega arith
taken_tail (suc k) [] = omega arith
taken_tail (suc k) (x ∷ xs) = let rest = taken_tail k xs in omega (arith, rest)

-- those behind a later number take no more
pub taken_less : (a b : ℕ) (xs : List Write) → a ≤ b → logged_blocks (drop b xs) ≤ logged_blocks (drop a xs)
taken_less a b xs le =
    let at : a + (b - a) ≡ b = omega (arith, le) in
    let rest = taken_tail (b - a) (drop a xs) in
    let same : logged_blocks (drop (b - a) (drop a xs)) ≡ logged_blocks (drop b xs) = ap (λ (ws : List Write). logged_blocks ws) (drop-drop (b - a) a xs) ∙ ap (λ (k : ℕ). logged_blocks (drop k xs)) at in
    omega (arith, rest, same)

-- those behind a number that is as far as this one, or behind all
pub taken_to : (hold to : ℕ) (xs : List Write) → min hold (length xs) ≤ to → logged_blocks (drop to xs) ≤ logged_blocks (drop hold xs)
taken_to hold to xs far = ⊎_elim
    (λ (few : hold < length xs + 1). taken_less hold to xs (omega (arith, far, few)))
    (λ (past : length xs + 1 ≤ hold). let none = ap (λ (ws : List Write). logged_blocks ws) (drop_all to xs (omega (arith, far, past))) in omega (arith, none))
    (cases_lt hold (length xs + 1))

-- ---- what the records of a log take

-- with one more write
push_at : (held : List Kept) (k : Kept) (xs : List Write) (x : Write) (low above : ℕ) → 0 < low → low + length held ≡ length xs + 1 → low ≤ above + 1 → width_of k ≡ blocks_in x.bytes + 1
    → widths (drop (above + 1 - low) held) ≡ logged_blocks (drop above xs) → widths (drop (above + 1 - low) (held ++ k ∷ [])) ≡ logged_blocks (drop above (xs ++ x ∷ []))
push_at held k xs x low above some last in_log width was = ⊎_elim
    (λ (few : above < length xs + 1).
    let one = ap (λ (ks : List Kept). widths ks) (drop-append-le (above + 1 - low) held (k ∷ []) (omega (arith, few, last, in_log))) in
    let two = widths_append (drop (above + 1 - low) held) (k ∷ []) in
    let three = ap (λ (ws : List Write). logged_blocks ws) (drop-append-le above xs (x ∷ []) (omega (arith, few))) in
    let four = taken_push (drop above xs) x in
    omega (arith, one, two, three, four, was, width))
    (λ (past : length xs + 1 ≤ above).
    let one = ap (λ (ks : List Kept). widths ks) (drop_all (above + 1 - low) (held ++ k ∷ []) (omega (arith, past, last, in_log, length-append held (k ∷ [])))) in
    let two = ap (λ (ws : List Write). logged_blocks ws) (drop_all above (xs ++ x ∷ []) (omega (arith, past, length-append xs (x ∷ [])))) in
    omega (arith, one, two))
    (cases_lt above (length xs + 1))

pub takes_push : (l l' : Log) (k : Kept) (xs : List Write) (x : Write) → 0 < l.header.low → l.header.low + length l.held ≡ length xs + 1 → l'.header.low ≡ l.header.low → l'.held ≡ l.held ++ k ∷ []
    → width_of k ≡ blocks_in x.bytes + 1 → TakesAs l xs → TakesAs l' (xs ++ x ∷ [])
takes_push l l' k xs x some last low held width takes = record {
  each = λ above in_log.
      let was : l.header.low ≤ above + 1 = omega (arith, low, in_log) in
      ap (λ (b : ℕ). widths (drop (above + 1 - b) l'.held)) low
      ∙ ap (λ (ks : List Kept). widths (drop (above + 1 - l.header.low) ks)) held
      ∙ push_at l.held k xs x l.header.low above some last was width (takes.each above was);
}

-- with the same records
pub takes_same : (l l' : Log) (xs : List Write) → l'.header.low ≡ l.header.low → l'.held ≡ l.held → TakesAs l xs → TakesAs l' xs
takes_same l l' xs low held takes = record {
  each = λ above in_log.
      ap (λ (b : ℕ). widths (drop (above + 1 - b) l'.held)) low
      ∙ ap (λ (ks : List Kept). widths (drop (above + 1 - l.header.low) ks)) held
      ∙ takes.each above (omega (arith, low, in_log));
}

-- without the first of them
pub takes_last : (l l' : Log) (xs : List Write) → l.header.low ≤ l'.header.low → l'.held ≡ drop (l'.header.low - l.header.low) l.held → TakesAs l xs → TakesAs l' xs
takes_last l l' xs low held takes = record {
  each = λ above in_log.
      let at : l'.header.low - l.header.low + (above + 1 - l'.header.low) ≡ above + 1 - l.header.low = omega (arith, low, in_log) in
      ap (λ (ks : List Kept). widths (drop (above + 1 - l'.header.low) ks)) held
      ∙ ap (λ (ks : List Kept). widths ks) (drop-drop (above + 1 - l'.header.low) (l'.header.low - l.header.low) l.held)
      ∙ ap (λ (k : ℕ). widths (drop k l.held)) at
      ∙ takes.each above (omega (arith, low, in_log));
}

-- of a group that holds the last of the writes
pub takes_told : (core : Core) (h : Holding) (m : Meaning) (xs : List Write) → core.log.staged ≡ [] → Stands core h m → 0 < h.low → h.writes ≡ drop (h.low - 1) xs → TakesAs core.log xs
takes_told core h m xs idle stands some writes = record {
  each = λ above in_log.
      let at : h.low - 1 + (above + 1 - h.low) ≡ above = omega (arith, some, in_log, stands.low) in
      sym (ap (λ (ks : List Kept). widths (drop (count_to core.log above) ks)) (ap (λ (ks : List Kept). core.log.held ++ ks) idle ∙ append-nil core.log.held))
      ∙ taken_above core h m stands above
      ∙ taken_same (drop (above + 1 - h.low) h.writes)
      ∙ ap (λ (ws : List Write). logged_blocks (drop (above + 1 - h.low) ws)) writes
      ∙ ap (λ (ws : List Write). logged_blocks ws) (drop-drop (above + 1 - h.low) (h.low - 1) xs)
      ∙ ap (λ (k : ℕ). logged_blocks (drop k xs)) at;
}

-- of an empty log
pub takes_none : (l : Log) → l.held ≡ [] → TakesAs l []
takes_none l none = record {
  each = λ above in_log.
      ap (λ (ks : List Kept). widths (drop (above + 1 - l.header.low) ks)) none
      ∙ ap (λ (ks : List Kept). widths ks) (drop_all {X = Kept} (above + 1 - l.header.low) [] (omega arith))
      ∙ sym (ap (λ (ws : List Write). logged_blocks ws) (drop_all {X = Write} above [] (omega arith)));
}

-- ---- writes that stand in for those of a log whose contents are not told

abbrev stand_in : Kept → Write
stand_in k = record { volume = 0; start = 0; bytes = replicate (512 * k.head.count) 0 }

abbrev nothing : Write
nothing = record { volume = 0; start = 0; bytes = [] }

-- as wide as its records, behind others that it no longer holds
abbrev pub stand_ins : Log → List Write
stand_ins l = replicate (l.header.low - 1) nothing ++ map stand_in l.held

pub ins_length : (l : Log) → length (stand_ins l) ≡ l.header.low - 1 + length l.held
ins_length l = omega (arith, length-append (replicate (l.header.low - 1) nothing) (map stand_in l.held), length-replicate {A = Write} (l.header.low - 1) nothing, length-map l.held stand_in)

ins_take : (ks : List Kept) → logged_blocks (map stand_in ks) ≡ widths ks
ins_take [] = refl
ins_take (k ∷ ks) = omega (arith, length-replicate {A = ℕ} (512 * k.head.count) 0, ins_take ks)

pub takes_ins : (l : Log) → 0 < l.header.low → TakesAs l (stand_ins l)
takes_ins l some = record {
  each = λ above in_log.
      let i : ℕ = above + 1 - l.header.low in
      let front : List Write = replicate (l.header.low - 1) nothing in
      let at : length front + i ≡ above = omega (arith, length-replicate {A = Write} (l.header.low - 1) nothing, some, in_log) in
      sym (ap (λ (k : ℕ). logged_blocks (drop k (stand_ins l))) (sym at)
      ∙ ap (λ (ws : List Write). logged_blocks ws) (drop-append-add front (map stand_in l.held) i ∙ drop-map stand_in i l.held)
      ∙ ins_take (drop i l.held));
}

-- ---- a site without links has room beside none of its numbers

module _ {R : Type 0} {g : Ghosts R} where
  over_durable : (n : Node) (s : OverSite R g) → OverStands site_alone n s → is_origin n.role ≡ true → n.state ≡ IsUp → n.halted ≡ None → length n.log ≡ n.safe
  over_durable n (OriginSite f) h origin up none = omega (arith, h.logged, h.durable none)
  over_durable n (ReceiverSite f) h origin up none = let e : true ≡ false = sym origin ∙ h.role in absurd (cc)
  over_durable n (GroupAway idle) h origin up none = h.1.logged
  over_durable n (GroupFell idle) h origin up none = h.2.logged
  over_durable n NoGroup h origin up none = absurd h

  all_durable : (n : Node) (e : DiskSet R g) → StandsAlone n e → is_origin n.role ≡ true → n.state ≡ IsUp → n.halted ≡ None → length n.log ≡ n.safe
  all_durable n (Bare rack) h origin up none = let e : IsBare ≡ IsUp = sym (ap (λ (x : Node). x.state) h.bare.is) ∙ up in absurd (cc)
  all_durable n (Spoiled rack) h origin up none = let e : IsBare ≡ IsUp = sym (ap (λ (x : Node). x.state) h.is) ∙ up in absurd (cc)
  all_durable n (Up rvg) h origin up none = omega (arith, h.1.logged, h.1.durable none)
  all_durable n (Receives s) h origin up none = let e : true ≡ false = sym origin ∙ h.1.role in absurd (cc)
  all_durable n (Down rack) h origin up none = let e : IsDown ≡ IsUp = sym h.state ∙ up in absurd (cc)
  all_durable n (OfGroup s) h origin up none =
      let has = up_has_none site_alone n s h up in
      ap (λ (xs : List Write). length xs) has.log ∙ sym has.safe
  all_durable n (Over s) h origin up none = over_durable n s.site h.1 origin up none
  all_durable n Gone h origin up none = absurd h

  pub all_room : (n : Node) (volume start count hold : ℕ) (e : DiskSet R g) → StandsAlone n e → CanWrite n volume start count → hold ≡ n.safe → HasRoom [] n hold count
  all_room n volume start count hold e h can is = record {
    unneeded = none_of [] hold refl;
    room =
        let many = all_durable n e h can.origin can.up can.running in
        let none = ap (λ (ws : List Write). logged_blocks ws) (drop_all hold n.log (omega (arith, many, is))) in
        omega (arith, none, can.fits);
  }

-- ---- the room that a group answers

pub used_is : {beside : KeptBeside} (n : Node) (c : Core) (m : Meaning) (above : ℕ) → IsUpAt beside n c m → n.halted ≡ None → IsSound c m → c.log.header.low ≤ above + 1 → blocks_above c.log above ≡ logged_blocks (drop above n.log)
used_is n c m above up none sound low =
    ap (λ (ks : List Kept). widths (drop (count_to c.log above) ks)) (ap (λ (ks : List Kept). c.log.held ++ ks) (sound.idle (up.halted ∙ none) up.up) ∙ append-nil c.log.held)
    ∙ (up.takes none).each above low

-- no write has a greater number
pub used_none : {beside : KeptBeside} (n : Node) (c : Core) (m : Meaning) (above : ℕ) → IsUpAt beside n c m → n.halted ≡ None → last_of c ≤ above → 0 ≡ logged_blocks (drop above n.log)
used_none n c m above up none past = sym (ap (λ (ws : List Write). logged_blocks ws) (drop_all above n.log (omega (arith, past, up.head, up.durable none))))

-- what a link needs of a log is there
pub low_needed : (beside : KeptBeside) (n : Node) (c : Core) (m : Meaning) (k above : ℕ) (l : KeptLink) → IsUpAt beside n c m → n.halted ≡ None → IsTrue m.tells → slice_get beside.links k ≡ Some l → is_needing l ≡ true → hold_of l ≤ above → c.log.header.low ≤ above + 1
low_needed beside n c m k above l up none told there needing is =
    let stood = up.content none told in
    let state : c.log.header.state.links ≡ beside.links = ap (λ (s : State). s.links) up.kept ∙ up.linked told in
    let needs : NoneNeeds beside.links (stood.held.low - 1) = subst (λ (ls : List KeptLink). NoneNeeds ls (stood.held.low - 1)) state stood.needs in
    let far = needs.each k l there needing in
    omega (arith, far, is, stood.stands.low)
