-- The calls that stay of a legal history are one.
use Rattle.std.proofs.Common.{◌≡◌, ◌⊎◌, ℕ, suc, List, [], ◌∷◌, map, refl, ap, sym, ◌∙◌, subst, ⊎_elim, arith}
use Rattle.vx_model.specs.declared.call.Call.{Call}
use Rattle.vx_model.specs.declared.call.Call.TheVariants.{Read, Write as WriteBlocks}
use Rattle.vx_model.specs.declared.call.Reply.TheVariants.{Refused}
use Rattle.vx_model.specs.declared.no.No.TheVariants as no
use Rattle.vx_turn.specs.declared.ask.Ask.{Ask}
use Rattle.vx_turn.specs.declared.ask.Ask.TheVariants.{Ordered, Charged}
use Rattle.vx_turn.specs.declared.ask.Said.{Said}
use Rattle.vx_turn.specs.declared.ask.Said.TheVariants.{Replied, Worked}
use Rattle.vx_turn.specs.declared.meaning.Entry.{Entry}
use Rattle.vx_turn.specs.declared.meaning.State.{State}
use Rattle.vx_turn.specs.Volumes.{Volumes}
use Rattle.vx_turn.specs.Acting.{Rises, CountRose, RepliesTo, volumes_after, head_after}
use Rattle.vx_turn.specs.History.{Point, point_of, next_point, point_after, FollowsEntry, LegalFrom, Legal, asked}
use Rattle.vx_settle.specs.Bringing.{Events}
use Rattle.vx_burst.specs.Finishing.{IsLeftOut, IsCallAsk, Stay, LeadsHistory}

-- what is left out changes neither volumes nor the last number
out-volumes : (IsLeft : ℕ → Call → Type 0) (n : ℕ) (vs : Volumes) (ask : Ask) (said : Said) → IsLeftOut IsLeft n ask said → volumes_after vs ask said ≡ vs
out-volumes IsLeft n vs (Charged j) said o = refl
out-volumes IsLeft n vs (Ordered call) (Replied reply) o = ap (λ r. volumes_after vs (Ordered call) (Replied r)) o.0.1 ∙ refused call
  where
    refused : (k : Call) → volumes_after vs (Ordered k) (Replied (Refused (no.Stalled o.0.0))) ≡ vs
    refused (Read v s c) = refl
    refused (WriteBlocks v s bytes) = refl
out-volumes IsLeft n vs (Ordered call) (Worked reply into) o = absurd o

out-head : (IsLeft : ℕ → Call → Type 0) (n head : ℕ) (stopped : Type 0) (vs : Volumes) (ring : ℕ) (e : Entry) → IsLeftOut IsLeft n e.ask e.said → RepliesTo stopped vs ring head e.ask e.said e.before e.after → head_after head e.said ≡ head
out-head IsLeft n head stopped vs ring e o r = one e.ask e.said o r
  where
    one : (ask : Ask) (said : Said) → IsLeftOut IsLeft n ask said → RepliesTo stopped vs ring head ask said e.before e.after → head_after head said ≡ head
    one (Charged j) (Worked reply into) o r = refl
    one (Charged j) (Replied reply) o r = absurd r
    one (Ordered call) (Replied reply) o r = ap (λ z. head_after head (Replied z)) o.0.1
    one (Ordered call) (Worked reply into) o r = absurd o

-- a history that stays, from a point with the same volumes and number and with no greater counts
pub stay-legal : (IsLeft : ℕ → Call → Type 0) (n faults ring : ℕ) (p q : Point) (log : List Entry) (ys : Events) → q.volumes ≡ p.volumes → q.head ≡ p.head → Rises q.before p.before → Rises q.after p.after → LegalFrom faults ring p log
    → Stay IsLeft n (map asked log) ys → (es : List Entry) × (map asked es ≡ ys) × LegalFrom faults ring q es × ((point_after p log).volumes ≡ (point_after q es).volumes) × ((point_after p log).head ≡ (point_after q es).head)
stay-legal IsLeft n faults ring p q [] ys v h b a l s = ([], sym s, tt, sym v, sym h)
stay-legal IsLeft n faults ring p q (e ∷ log) ys v h b a l s = ⊎_elim
    (λ (o : IsLeftOut IsLeft n e.ask e.said × Stay IsLeft n (map asked log) ys). stay-legal IsLeft n faults ring (next_point p e) q log ys (v ∙ sym (out-volumes IsLeft n p.volumes e.ask e.said o.0))
    (h ∙ sym (out-head IsLeft n p.head (CountRose faults e.before.faults) p.volumes ring e o.0 l.0.3)) before after l.1 o.1)
    (λ (o : (zs : Events) × (ys ≡ asked e ∷ zs) × IsCallAsk e.ask × Stay IsLeft (suc n) (map asked log) zs).
    let r = stay-legal IsLeft (suc n) faults ring (next_point p e) (next_point q e) log o.0 (ap (λ x. volumes_after x e.ask e.said) v) (ap (λ x. head_after x e.said) h) (omega arith, omega arith) (omega arith, omega arith) l.1 o.3 in
    (e ∷ r.0, ap (λ t. asked e ∷ t) r.1 ∙ sym o.1, (follows, r.2), r.3, r.4)) s
  where
    before : Rises q.before e.before
    before = (let x = b.0 in let y = l.0.0.0 in omega (arith, x, y), let x = b.1 in let y = l.0.0.1 in omega (arith, x, y))

    after : Rises q.after e.after
    after = (let x = a.0 in let y = l.0.1.0 in omega (arith, x, y), let x = a.1 in let y = l.0.1.1 in omega (arith, x, y))

    follows : FollowsEntry faults ring q e
    follows = (before, after, l.0.2, subst (λ (x : Volumes × ℕ). RepliesTo (CountRose faults e.before.faults) x.0 ring x.1 e.ask e.said e.before e.after) (λ i. (sym v i, sym h i)) l.0.3)

-- the calls that stay lead where the whole history does
pub stay-leads : (IsLeft : ℕ → Call → Type 0) (start s : State) (log : List Entry) (ys : Events) → Legal start log → s.volumes ≡ (point_after (point_of start) log).volumes → s.head ≡ (point_after (point_of start) log).head → Stay IsLeft 0 (map asked log) ys → LeadsHistory start ys s
stay-leads IsLeft start s log ys legal volumes head stay =
    let r = stay-legal IsLeft 0 start.counts.faults start.ring (point_of start) (point_of start) log ys refl refl (omega arith, omega arith) (omega arith, omega arith) legal stay in record {
      entries = r.0;
      are = r.1;
      legal = r.2;
      volumes_is = volumes ∙ r.3;
      head_is = head ∙ r.4;
    }
