-- What calls on a group make of the last of its writes.
use Rattle.std.proofs.Common.{◌≡◌, ◌⊎◌, inl, inr, ⊎_elim, ℕ, zero, suc, ◌+◌, ◌-◌, ◌<◌, ◌≤◌, List, [], ◌∷◌, ◌++◌, length, take, drop, refl, sym, ◌∙◌, ap, subst, arith, length-append, append-nil}
use Rattle.std.proofs.lemmas.List.{drop-append-le, drop-drop, length-drop}
use Rattle.vx_model.specs.Content.{Content, Write, put}
use Rattle.vx_disk.specs.Shelf.{Meaning, Image, Lawful}
use Rattle.vx_rvg.specs.Holdings.{Holding, kept_in, with_last, with_writes}
use Rattle.vx_rvg.specs.Stands.{FoundAs, Resting, Rests, Retains, Saving, Stands, Writing}
use Rattle.vx_rvg.specs.Views.{Core}
use Rattle.vx_rvg.proofs.ContentFacts.{stands_count, stands_found}
use Rattle.vx_rvg.proofs.WriteCommit.{no_part}
use Rattle.vx_model.specs.declared.limits.TheConstants.{MOST_CALL_BLOCKS}
use Rattle.vx_history.specs.Events.{logged_blocks}
use Rattle.vx_srlfmt.specs.declared.header.Header.{Header}
use Rattle.vx_diskset.specs.Lasts.{FoundWith, HasLast, StandsHolding}
use Rattle.vx_diskset.specs.Needs.{NoneNeeds}
use Rattle.vx_diskset.proofs.ExactWrite.{taken_push}

-- what a group has of itself in an image
abbrev pub FoundOf : Core → Image → List Write → Content → Type 0
FoundOf core i xs c = FoundWith core.units core.log.ring core.log.header.state core.log.header.incarnation core.log.header.stamp i xs c

pub last_more : (ring : ℕ) (xs : List Write) (x : Write) (c : Content) (h : Holding) → HasLast ring xs c h → HasLast ring (xs ++ x ∷ []) (put c x) (with_writes (x ∷ []) h)
last_more ring xs x c h has = record {
  some = has.some;
  last = omega (arith, has.last, length-append h.writes (x ∷ []), length-append xs (x ∷ []));
  writes = ap (λ (ws : List Write). ws ++ x ∷ []) has.writes ∙ sym (drop-append-le (h.low - 1) xs (x ∷ []) (omega (arith, has.last)));
  content = ap (λ (d : Content). put d x) has.content;
  whole = λ room. has.whole (let more = taken_push xs x in omega (arith, room, more));
}

-- with none of the writes that were begun
last_same : (ring : ℕ) (xs : List Write) (c : Content) (h : Holding) → HasLast ring xs c h → HasLast ring xs c (with_writes [] h)
last_same ring xs c h has = record {
  some = has.some;
  last = omega (arith, has.last, length-append h.writes []);
  writes = append-nil h.writes ∙ has.writes;
  content = has.content;
  whole = has.whole;
}

kept_by : (ring : ℕ) (xs : List Write) (c : Content) (h : Holding) (low place count k : ℕ) → k ≡ length h.writes - count → HasLast ring xs c h → 0 < low → low + count ≡ length xs + 1 → count ≤ length h.writes
    → (logged_blocks xs + (MOST_CALL_BLOCKS + 1) ≤ ring → ⊥) → HasLast ring xs c (record { low = low; writes = drop k h.writes; place = place; content = h.content; maps = h.maps })
kept_by ring xs c h low place count k is has some last few full =
    let at : h.low - 1 + k ≡ low - 1 = omega (arith, is, has.some, has.last, some, last, few) in
    record {
      some = some;
      last = omega (arith, is, last, few, length-drop k h.writes);
      writes = ap (λ (ws : List Write). drop k ws) has.writes ∙ drop-drop k (h.low - 1) xs ∙ ap (λ (n : ℕ). drop n xs) at;
      content = has.content;
      whole = λ room. absurd (full room);
    }

-- a log that gave writes up had no room for the largest one
pub last_kept : (ring : ℕ) (xs : List Write) (c : Content) (h : Holding) (low place count : ℕ) → HasLast ring xs c h → 0 < low → low + count ≡ length xs + 1 → count ≤ length h.writes → (logged_blocks xs + (MOST_CALL_BLOCKS + 1) ≤ ring → ⊥)
    → HasLast ring xs c (with_last low place count h)
last_kept ring xs c h low place count has some last few full = kept_by ring xs c h low place count (length h.writes - count) refl has some last few full

-- an image in a write
pub writing_found : (core : Core) (xs : List Write) (x : Write) (c : Content) (m : Meaning) (i : Image) → Writing core (x ∷ []) m i → StandsHolding core xs c m → FoundOf core i xs c ⊎ FoundOf core i (xs ++ x ∷ []) (put c x)
writing_found core xs x c m i writing stood = by (writing.each stood.held stood.stands).0 (writing.each stood.held stood.stands).1
  where
    by : (k : ℕ) → FoundAs core i (with_writes (take k (x ∷ [])) stood.held) → FoundOf core i xs c ⊎ FoundOf core i (xs ++ x ∷ []) (put c x)
    by zero found = inl (record { held = with_writes [] stood.held; has = last_same core.log.ring xs c stood.held stood.has; needs = stood.needs; found = found })
    by (suc k) found = inr (record {
      held = with_writes (x ∷ []) stood.held;
      has = last_more core.log.ring xs x c stood.held stood.has;
      needs = stood.needs;
      found = subst (λ (ws : List Write). FoundAs core i (with_writes (x ∷ ws) stood.held)) (no_part k) found;
    })

-- in another ring that is as large
in_ring : (core core' : Core) (xs : List Write) (c : Content) (h : Holding) → core'.log.ring ≡ core.log.ring → HasLast core.log.ring xs c h → HasLast core'.log.ring xs c h
in_ring core core' xs c h same has = subst (λ (r : ℕ). HasLast r xs c h) (sym same) has

-- behind a header that keeps the same links
same_needs : (core core' : Core) (low : ℕ) → core'.log.header ≡ core.log.header → NoneNeeds core.log.header.state.links low → NoneNeeds core'.log.header.state.links low
same_needs core core' low same needs = subst (λ (h : Header). NoneNeeds h.state.links low) (sym same) needs

-- behind a write
pub write_with : (core core' : Core) (xs : List Write) (x : Write) (c : Content) (m m' : Meaning) → core'.log.ring ≡ core.log.ring → core'.log.header ≡ core.log.header → ((h : Holding) → Stands core h m → Stands core' (with_writes (x ∷ []) h) m') → StandsHolding core xs c m
    → StandsHolding core' (xs ++ x ∷ []) (put c x) m'
write_with core core' xs x c m m' same header stands stood = record {
  held = with_writes (x ∷ []) stood.held;
  needs = same_needs core core' (stood.held.low - 1) header stood.needs;
  has = in_ring core core' (xs ++ x ∷ []) (put c x) (with_writes (x ∷ []) stood.held) same (last_more core.log.ring xs x c stood.held stood.has);
  stands = stands stood.held stood.stands;
}

-- an image in a call that changes nothing, and behind it
pub resting_found : (core : Core) (xs : List Write) (c : Content) (m : Meaning) (i : Image) → Resting core m i → StandsHolding core xs c m → FoundOf core i xs c
resting_found core xs c m i resting stood = record { held = stood.held; has = stood.has; needs = stood.needs; found = resting.each stood.held stood.stands }

pub rests_with : (core core' : Core) (xs : List Write) (c : Content) (m m' : Meaning) → core'.log.ring ≡ core.log.ring → core'.log.header ≡ core.log.header → Rests core core' m m' → StandsHolding core xs c m → StandsHolding core' xs c m'
rests_with core core' xs c m m' same header rests stood = record { held = stood.held; has = in_ring core core' xs c stood.held same stood.has; needs = same_needs core core' (stood.held.low - 1) header stood.needs; stands = rests.each stood.held stood.stands }

pub still_with : (core : Core) (xs : List Write) (c : Content) (m m' : Meaning) → ((h : Holding) → Stands core h m → Stands core h m') → StandsHolding core xs c m → StandsHolding core xs c m'
still_with core xs c m m' stands stood = record { held = stood.held; has = stood.has; needs = stood.needs; stands = stands stood.held stood.stands }

-- an image in a call that gives writes up, as there was no room for the largest one, and behind it
module _ (core after : Core) (xs : List Write) (c : Content) (m : Meaning) (some : 0 < after.log.header.low) (last : after.log.header.low + length after.log.held ≡ length xs + 1)
    (few : length after.log.held ≤ length core.log.held) (same : after.log.ring ≡ core.log.ring) (full : logged_blocks xs + (MOST_CALL_BLOCKS + 1) ≤ core.log.ring → ⊥)
    (needs : NoneNeeds after.log.header.state.links (after.log.header.low - 1)) where
  kept_with : (h : Holding) → HasLast core.log.ring xs c h → Stands core h m → HasLast after.log.ring xs c (kept_in after h)
  kept_with h has stands =
      in_ring core after xs c (kept_in after h) same
      (last_kept core.log.ring xs c h after.log.header.low after.log.header.place (length after.log.held) has some last (omega (arith, few, stands_count core h m stands)) full)

  pub saving_with : (i : Image) → Saving core after m i → StandsHolding core xs c m → FoundOf core i xs c ⊎ FoundOf after i xs c
  saving_with i saving stood =
      ⊎_elim (λ old. inl (record { held = stood.held; has = stood.has; needs = stood.needs; found = old })) (λ next. inr (record { held = kept_in after stood.held; has = kept_with stood.held stood.has stood.stands; needs = needs; found = next }))
      (saving.each stood.held stood.stands)

  pub retains_with : (m' : Meaning) → Retains core after m m' → StandsHolding core xs c m → StandsHolding after xs c m'
  retains_with m' retains stood = record { held = kept_in after stood.held; has = kept_with stood.held stood.has stood.stands; needs = needs; stands = retains.each stood.held stood.stands }

-- what a crash now leaves
pub stands_with : (core : Core) (xs : List Write) (c : Content) (m : Meaning) (i : Image) → core.log.unit ≡ core.units.srl → Lawful m → StandsHolding core xs c m → m.now i → FoundOf core i xs c
stands_with core xs c m i unit_is lawful stood now = record { held = stood.held; has = stood.has; needs = stood.needs; found = stands_found core stood.held m i unit_is lawful stood.stands now }
