-- No record that a start passed over is taken.
use Rattle.std.proofs.Common.{◌≡◌, ◌⊎◌, inl, inr, ⊎_elim, ℕ, zero, suc, List, [], ◌∷◌, ◌++◌, take, sym, subst}
use Rattle.vx_srlfmt.specs.declared.header.Header.{Header}
use Rattle.vx_ringlog.specs.Cells.{RingImage}
use Rattle.vx_ringlog.specs.Records.{Record, era_of}
use Rattle.vx_ringlog.specs.Chain.{Recovers, Starts}
use Rattle.vx_ringlog.specs.Logs.{Allowed, Call, Found, In, IsLog, Restart, Save, Seal, Stage, State, acts_of}
use Rattle.vx_ringlog.specs.Runs.{NonePassedOver}
use Rattle.vx_ringlog.proofs.Calls.{call_safe, in_append, in_behind, now_in}
use Rattle.vx_ringlog.proofs.OneLog.{log_unique}
use Rattle.vx_ringlog.proofs.Runs.{left}

in_take : (r : Record) (k : ℕ) (ss : List Record) → In r (take k ss) → In r ss
in_take r zero ss is = absurd is
in_take r (suc k) [] is = absurd is
in_take r (suc k) (x ∷ ss) (inl here) = inl here
in_take r (suc k) (x ∷ ss) (inr there) = inr (in_take r k ss there)

module _ (size : ℕ) (s : State) (log : IsLog size s) (r : Record) where
  abbrev Good : Type 0
  Good = In r s.found ⊎ (r.incarnation ≡ s.header.incarnation)

  of_list : (held : List Record) (k : ℕ) → (In r held → In r s.held) → In r (held ++ take k s.staged) → Good
  of_list held k sub is = ⊎_elim (λ a. log.origin r (sub a)) (λ b. inr (now_in (era_of s.header) r s.staged log.ready.now (in_take r k s.staged b))) (in_append r held (take k s.staged) is)

  from : (i : RingImage) (h g : Header) (rs ss : List Record) → Recovers size i g ss → Starts size i h rs → In r rs → In r ss
  from i h g rs ss rec starts is = subst (λ (l : List Record). In r l) (log_unique size i h g rs ss starts rec.starts).1 is

  old : (i : RingImage) (h : Header) (rs : List Record) → Starts size i h rs → In r rs → ((k : ℕ) × Recovers size i s.header (s.held ++ take k s.staged)) → Good
  old i h rs starts is o = of_list s.held o.0 (λ a. a) (from i h s.header rs (s.held ++ take o.0 s.staged) o.1 starts is)

  good : (c : Call) → Allowed size s c → (i : RingImage) → Found size s c i → (h : Header) (rs : List Record) → Starts size i h rs → In r rs → Good
  good (Stage x) may i found h rs starts is = ⊎_elim (old i h rs starts is) (λ none. absurd none) found
  good Seal may i found h rs starts is = ⊎_elim (old i h rs starts is) (λ none. absurd none) found
  good (Save g gone kept) may i found h rs starts is =
      ⊎_elim (old i h rs starts is)
      (λ (o : (k : ℕ) × Recovers size i g (kept ++ take k s.staged)). of_list kept o.0 (λ a. subst (λ (l : List Record). In r l) (sym may.split) (in_behind r gone kept a)) (from i h g rs (kept ++ take o.0 s.staged) o.1 starts is)) found
  good (Restart g) may i found h rs starts is = ⊎_elim (old i h rs starts is) (λ (o : Recovers size i g []). absurd (from i h g rs [] o starts is)) found

pub none_passed_over : NonePassedOver
none_passed_over size s c log may i moment h rs starts r is = good size s log r c may i (left (Found size s c) s.unit (acts_of size s c) i (call_safe size s c log may).0 moment) h rs starts is
