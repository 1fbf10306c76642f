-- What was made is laid, one after another.
use Rattle.std.proofs.Common.{◌≡◌, ◌≢◌, ◌⊎◌, suc, ◌≤◌, List, [], ◌∷◌, ◌++◌, length, refl, ap, sym, ◌∙◌, subst, ⊎_elim, inl, inr, arith, append_assoc, slice_get, slice_set, Some}
use Rattle.std.proofs.lemmas.List.{append-nil}
use Rattle.vx_turn.specs.Acting.{LiesAmong}
use Rattle.vx_turn.proofs.Histories.{among-cons}
use Rattle.vx_settle.proofs.ManyPeers.{get-set, set-long, get-inside}
use Rattle.vx_burst_threads.specs.declared.plan.Answered.{Answered}
use Rattle.vx_burst_threads.specs.declared.writer.Made.{Made}
use Rattle.vx_burst_threads.specs.Laying.{answered_as, LaidWith}

pub laid-none : (A : Made → Type 0) (olds : List Answered) → ((m : Made) → A m → ⊥) → LaidWith A olds olds
laid-none A olds none = record { long = refl; each = λ k b at. inl (at, λ m a is. none m a) }

pub laid-as : (A B : Made → Type 0) (olds bs : List Answered) → ((m : Made) → B m → A m) → ((m : Made) → A m → B m) → LaidWith A olds bs → LaidWith B olds bs
laid-as A B olds bs back to l = record {
  long = l.long;
  each = λ k b at. ⊎_elim (λ (o : (slice_get olds k ≡ Some b) × ((m : Made) → A m → m.at ≡ k → ⊥)). inl (o.0, λ m a. o.1 m (back m a)))
      (λ (o : (m : Made) × A m × (m.at ≡ k) × (b ≡ answered_as m)). inr (o.0, to o.0 o.1, o.2, o.3)) (l.each k b at);
}

pub laid-then : (A B C : Made → Type 0) (olds bs cs : List Answered) → ((m : Made) → C m → A m ⊎ B m) → ((m : Made) → A m → C m) → ((m : Made) → B m → C m) → LaidWith A olds bs → LaidWith B bs cs → LaidWith C olds cs
laid-then A B C olds bs cs split left right x y = record {
  long = y.long ∙ x.long;
  each = λ k c at. ⊎_elim
      (λ (o : (slice_get bs k ≡ Some c) × ((m : Made) → B m → m.at ≡ k → ⊥)). ⊎_elim
      (λ (p : (slice_get olds k ≡ Some c) × ((m : Made) → A m → m.at ≡ k → ⊥)). inl (p.0, λ m h is. ⊎_elim (λ (a : A m). p.1 m a is) (λ (b : B m). o.1 m b is) (split m h)))
      (λ (p : (m : Made) × A m × (m.at ≡ k) × (c ≡ answered_as m)). inr (p.0, left p.0 p.1, p.2, p.3)) (x.each k c o.0))
      (λ (o : (m : Made) × B m × (m.at ≡ k) × (c ≡ answered_as m)). inr (o.0, right o.0 o.1, o.2, o.3)) (y.each k c at);
}

-- of what was made the last ones are laid
pub record Laying (made left : List Made) (olds bs : List Answered) : Type 0 where
  pub done : List Made
  pub is : made ≡ left ++ done
  pub laid : LaidWith (λ m. LiesAmong m done) olds bs

pub laying-first : (made : List Made) (olds : List Answered) → Laying made made olds olds
laying-first made olds = record { done = []; is = sym (append-nil made); laid = laid-none (λ m. LiesAmong m []) olds (λ m a. absurd (cc a.1)) }

laying-one : (made left less : List Made) (one : Made) (olds bs cs : List Answered) → left ≡ less ++ one ∷ [] → Laying made left olds bs → LaidWith (λ m. one ≡ m) bs cs → Laying made less olds cs
laying-one made left less one olds bs cs pop l x = record {
  done = one ∷ l.done;
  is = l.is ∙ (ap (λ z. z ++ l.done) pop ∙ append_assoc less (one ∷ []) l.done);
  laid = laid-then (λ m. LiesAmong m l.done) (λ m. one ≡ m) (λ m. LiesAmong m (one ∷ l.done)) olds bs cs
      (λ m a. ⊎_elim (λ (e : one ≡ m). inr e) (λ (e : LiesAmong m l.done). inl e) (among-cons m one l.done a)) (λ m a. (suc a.0, a.1)) (λ m e. (0, ap Some e)) l.laid x;
}

pub laying-set : (made left less : List Made) (one : Made) (olds bs : List Answered) → left ≡ less ++ one ∷ [] → Laying made left olds bs → Laying made less olds (slice_set bs one.at (answered_as one))
laying-set made left less one olds bs pop l = laying-one made left less one olds bs (slice_set bs one.at (answered_as one)) pop l (record {
  long = set-long bs one.at (answered_as one);
  each = λ k b at. ⊎_elim (λ (o : (k ≡ one.at) × (answered_as one ≡ b)). inr (one, refl, sym o.0, sym o.1))
      (λ (o : (k ≢ one.at) × (slice_get bs k ≡ Some b)). inl (o.1, λ m e is. o.0 (sym is ∙ ap (λ (z : Made). z.at) (sym e)))) (get-set bs one.at (answered_as one) k b at);
})

pub laying-past : (made left less : List Made) (one : Made) (olds bs : List Answered) → left ≡ less ++ one ∷ [] → length bs ≤ one.at → Laying made left olds bs → Laying made less olds bs
laying-past made left less one olds bs pop past l = laying-one made left less one olds bs bs pop l (record {
  long = refl;
  each = λ k b at. inl (at, λ m e is. let n = get-inside bs k b at in let z : one.at ≡ m.at = ap (λ (y : Made). y.at) e in absurd (omega (arith, n, past, z, is)));
})

pub laying-end : (made left : List Made) (olds bs : List Answered) → left ≡ [] → Laying made left olds bs → LaidWith (λ m. LiesAmong m made) olds bs
laying-end made left olds bs none l = subst (λ z. LaidWith (λ m. LiesAmong m z) olds bs) (sym (l.is ∙ ap (λ z. z ++ l.done) none)) l.laid
