-- Worked runs of what a site notes of the regions that plexes missed: a volume of 256 blocks, so of four regions, on two plexes.
use Rattle.std.proofs.Common.{◌≡◌, ◌∙◌, ◌⊎◌, ◌+◌, ◌&&◌, ℕ, Bool, true, false, refl, sym, ap, arith, inl, inr}
use Rattle.std.specs.Prelude.{◌==◌, if◌then◌else◌, ltb, replicate}
use Rattle.vx_model.specs.Content.{Write}
use Rattle.vx_history.specs.Groups.{MissedNote}
use Rattle.vx_history.specs.Missing.{CopiesMissed, count_regions, each_anew, in_write, maps_doubted, maps_none, maps_written, no_plex, none_missed, one_anew, this_volume}

-- both plexes take part, and the first alone
abbrev both : ℕ → ℕ → Bool
both v p = v == 0 && ltb p 2

abbrev first : ℕ → ℕ → Bool
first v p = v == 0 && p == 0

-- one block at this place
abbrev block_at : ℕ → Write
block_at start = record { volume = 0; start = start; bytes = replicate 512 187 }

-- a write that is done, of a volume whose maps are known behind it
abbrev wrote : (was now : ℕ → ℕ → Bool) → ℕ → MissedNote → MissedNote
wrote was now start w = maps_written (this_volume 0) 7 was now (each_anew w 0) (in_write (block_at start)) w

-- a call that writes nothing
abbrev called : (was now : ℕ → ℕ → Bool) → MissedNote → MissedNote
called was now w = maps_written (this_volume 0) 8 was now no_plex none_missed w

-- ---- a plex fails in the second write; it is deported and imported, and the plex is attached

abbrev one_write : MissedNote
one_write = wrote both both 10 (maps_none 5)

abbrev two_writes : MissedNote
two_writes = wrote both first 70 one_write

missed_0 : two_writes.missed 0 1 0 ≡ false
missed_0 = refl

missed_1 : two_writes.missed 0 1 1 ≡ true
missed_1 = refl

missed_2 : two_writes.missed 0 1 2 ≡ false
missed_2 = refl

missed_3 : two_writes.missed 0 1 3 ≡ false
missed_3 = refl

four : (f : ℕ → Bool) → f 0 ≡ false → f 1 ≡ true → f 2 ≡ false → f 3 ≡ false → count_regions f 4 ≡ 1
four f a b c d =
    ap (λ (x : Bool). 0 + (if x then 1 else 0) + (if f 1 then 1 else 0) + (if f 2 then 1 else 0) + (if f 3 then 1 else 0)) a
    ∙ ap (λ (x : Bool). 0 + 0 + (if x then 1 else 0) + (if f 2 then 1 else 0) + (if f 3 then 1 else 0)) b
    ∙ ap (λ (x : Bool). 0 + 0 + 1 + (if x then 1 else 0) + (if f 3 then 1 else 0)) c
    ∙ ap (λ (x : Bool). 0 + 0 + 1 + 0 + (if x then 1 else 0)) d

not_in : (x m q : Bool) → m ≡ false → q ≡ false → (x ≡ true → (m ≡ true) ⊎ (q ≡ true)) → x ≡ false
not_in false m q none never most = refl
not_in true m q none never most = by (most refl)
  where
    by : (m ≡ true) ⊎ (q ≡ true) → true ≡ false
    by (inl is) = sym is ∙ none
    by (inr is) = sym is ∙ never

-- one region is copied, and no other number
one_is_copied : (n : ℕ) → CopiesMissed two_writes 0 1 4 n → n ≡ 1
one_is_copied n it =
    it.count_is
    ∙ four it.set (not_in (it.set 0) false false refl refl (it.most 0 (omega arith))) (it.least 1 (omega arith) refl) (not_in (it.set 2) false false refl refl (it.most 2 (omega arith)))
    (not_in (it.set 3) false false refl refl (it.most 3 (omega arith)))

-- ---- it is attached, and fails in a further write: it has missed that one alone

abbrev attached : MissedNote
attached = called first both two_writes

abbrev failed_again : MissedNote
failed_again = wrote both first 10 attached

again_0 : failed_again.missed 0 1 0 ≡ true
again_0 = refl

again_1 : failed_again.missed 0 1 1 ≡ false
again_1 = refl

again_none : failed_again.perhaps 0 1 1 ≡ false
again_none = refl

-- ---- behind a write that failed any plex may have missed its regions, and the map of one that is detached does not begin anew; but what was left in it before the
-- first such write is gone

abbrev refused : MissedNote
refused = maps_doubted (this_volume 0) 9 both both 0 true (in_write (block_at 200)) attached

refused_1 : refused.missed 0 1 1 ≡ false
refused_1 = refl

perhaps_3 : refused.perhaps 0 1 3 ≡ true
perhaps_3 = refl

abbrev off : MissedNote
off = maps_written (this_volume 0) 9 both first (one_anew refused 0 1) none_missed refused

off_none : off.missed 0 1 3 ≡ false
off_none = refl

off_perhaps : off.perhaps 0 1 3 ≡ true
off_perhaps = refl

off_left : off.perhaps 0 1 1 ≡ false
off_left = refl

-- one that fails behind it leaves what the maps have

abbrev refused_again : MissedNote
refused_again = maps_doubted (this_volume 0) 9 both both 0 true (in_write (block_at 10)) refused

again_0_perhaps : refused_again.perhaps 0 1 0 ≡ true
again_0_perhaps = refl

again_3_perhaps : refused_again.perhaps 0 1 3 ≡ true
again_3_perhaps = refl

-- and so does one behind which no copies may differ

abbrev unflushed : MissedNote
unflushed = maps_doubted (this_volume 0) 9 both both 0 false (in_write (block_at 200)) attached

unflushed_1 : unflushed.missed 0 1 1 ≡ true
unflushed_1 = refl

unflushed_doubt : unflushed.doubt 0 ≡ false
unflushed_doubt = refl

-- ---- a detach of a volume of which no write failed begins the map anew

abbrev detached : MissedNote
detached = maps_written (this_volume 0) 9 both first (one_anew attached 0 1) none_missed attached

detached_1 : detached.missed 0 1 1 ≡ false
detached_1 = refl

detached_none : detached.perhaps 0 1 1 ≡ false
detached_none = refl
