-- Writes that are sent as updates, one after another.
use Rattle.std.proofs.Common.{◌≡◌, ◌∙◌, ℕ, suc, ◌+◌, ◌-◌, ◌<◌, List, ◌∷◌, ◌++◌, length, get_or, take, drop, min, append_assoc, sym, ap, arith, add-one}
use Rattle.std.specs.Prelude.{pred}
use Rattle.std.proofs.Math.Seq.{drop-cons}
use Rattle.std.proofs.Math.Numerals.{sub-one}
use Rattle.std.proofs.lemmas.List.{drop-take, take_min}
use Rattle.vx_model.specs.Content.{Write}
use Rattle.vx_history.specs.World.{Packet, Update}
use Rattle.vx_history.specs.Sends.{packets_of, updates, between}
use Rattle.vx_model.specs.declared.history.Line.{Line}

-- one more of the writes is sent
pub one_sent : (source target : ℕ) (line : Line) (number past : ℕ) (writes : List Write) (x : Write) (now all : List Packet) → past < length writes → x ≡ get_or writes past x
    → now ++ updates source target line (number + past) (drop past writes) ≡ all
    → (now ++ packets_of source target line (Update (number + past) x)) ++ updates source target line (number + (past + 1)) (drop (past + 1) writes) ≡ all
one_sent source target line number past writes x now all lt is h =
    let next : number + (past + 1) ≡ number + past + 1 = omega arith in
    let first : List Packet = packets_of source target line (Update (number + past) x) in
    let rest : List Write = drop (past + 1) writes in
    let cut : drop past writes ≡ x ∷ rest =
    drop-cons writes past x lt ∙ ap (λ (y : Write). y ∷ drop (suc past) writes) (sym is) ∙ ap (λ (k : ℕ). x ∷ drop k writes) (sym (add-one past)) in
    append_assoc now first (updates source target line (number + (past + 1)) rest)
    ∙ ap (λ (n : ℕ). now ++ (first ++ updates source target line n rest)) next
    ∙ ap (λ (xs : List Write). now ++ updates source target line (number + past) xs) (sym cut)
    ∙ h

-- the writes between two numbers, as a part of the log
pub between_is : (from to first last : ℕ) (log : List Write) → first ≡ min (from - 1) (length log) → last ≡ min to (length log) → first < last → take (last - first) (drop first log) ≡ between from to log
between_is from to first last log low high lt =
    let start : first ≡ pred from = omega (arith, sub-one from) in
    let whole : first + (last - first) ≡ last = omega arith in
    sym (drop-take first (last - first) log)
    ∙ ap (λ (n : ℕ). drop first (take n log)) (whole ∙ high)
    ∙ ap (λ (xs : List Write). drop first xs) (take_min to log)
    ∙ ap (λ (n : ℕ). drop n (take to log)) start
