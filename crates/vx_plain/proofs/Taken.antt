-- A peer that takes what it is handed does as a peer must.
use Rattle.std.proofs.Common.{◌≡◌, ◌∙◌, ◌⊎◌, ℕ, zero, suc, ◌+◌, ◌<◌, ◌≤◌, [], ◌∷◌, ◌++◌, length, refl, ap, sym, ⊎_elim, inl, inr, arith, length-append, Bool, true, false, subst, slice_get, Some}
use Rattle.std.specs.Prelude.{MatchBool}
use Rattle.vx_model.specs.Content.{blocks_in}
use Rattle.vx_model.specs.declared.call.Update.{Update}
use Rattle.vx_settle.specs.declared.peer.Ack.{Ack}
use Rattle.vx_settle.specs.Peers.{Hands, Finishes, LiesIn}
use Rattle.vx_settle.proofs.ManyPeers.{some-one}
use Rattle.vx_plain.specs.declared.small.TheConstants.{VOLUME_BLOCKS}
use Rattle.vx_plain.specs.Logging.{RaisesCount}
use Rattle.vx_plain.specs.declared.taker.Taker.{Taker}
use Rattle.vx_plain.specs.Taking.{stand_of, root_of, IsNextUpdate, TakesNextUpdate}

pub hands-taken : (s t : Taker) (u : Update) (ack : Ack) → TakesNextUpdate s u t → ack.net ≡ length t.handed.items → ack.stored ≡ length t.handed.items → Hands (stand_of s) u ack (stand_of t)
hands-taken s t u ack a net stored = ⊎_elim
    (λ (o : (t.handed.items ≡ s.handed.items) × (t.faults ≡ s.faults) × (IsNextUpdate (length s.handed.items) u → ⊥)). let n : length t.handed.items ≡ length s.handed.items = ap (λ l. length l) o.0 in let f = o.1 in record {
      goes = record { link = a.link; line = refl; sizes = refl; faults = omega (arith, f); net = omega (arith, n); stored = omega (arith, n) };
      net = net;
      stored = stored;
      handed = inl (n, o.0);
      next = λ calm line number lies. absurd (o.2 (line, number, lies));
    })
    (λ (o : ((t.handed.items ≡ s.handed.items) × RaisesCount s.faults t.faults) ⊎ ((t.handed.items ≡ s.handed.items ++ u ∷ []) × (t.faults ≡ s.faults) × IsNextUpdate (length s.handed.items) u)). ⊎_elim
    (λ (k : (t.handed.items ≡ s.handed.items) × RaisesCount s.faults t.faults). let n : length t.handed.items ≡ length s.handed.items = ap (λ l. length l) k.0 in let f = k.1.0 in record {
      goes = record { link = a.link; line = refl; sizes = refl; faults = f; net = omega (arith, n); stored = omega (arith, n) };
      net = net;
      stored = stored;
      handed = inl (n, k.0);
      next = λ calm line number lies. absurd (calm k.1.1);
    })
    (λ (k : (t.handed.items ≡ s.handed.items ++ u ∷ []) × (t.faults ≡ s.faults) × IsNextUpdate (length s.handed.items) u). let n : length t.handed.items ≡ length (s.handed.items ++ u ∷ []) = ap (λ l. length l) k.0 in let m = length-append s.handed.items (u ∷ []) in let f = k.1 in record {
      goes = record { link = a.link; line = refl; sizes = refl; faults = omega (arith, f); net = omega (arith, n, m); stored = omega (arith, n, m) };
      net = net;
      stored = stored;
      handed = inr (record { handed = k.0; next = (k.2.0, k.2.1, tt); net = n ∙ m });
      next = λ calm line number lies. omega (arith, n, m);
    }) o) a.how

pub root-taken : (s t : Taker) (u : Update) → TakesNextUpdate s u t → root_of t ≡ root_of s
root-taken s t u a = λ i. record { link = a.link i; most = a.most i; faults = 0; handed = (a.first i).value; first = a.first i }

pub finishes-taken : (s : Taker) (ack : Ack) → ack.net ≡ length s.handed.items → ack.stored ≡ length s.handed.items → Finishes (stand_of s) ack (stand_of s)
finishes-taken s ack net stored = record {
  goes = record { link = refl; line = refl; sizes = refl; faults = omega arith; net = omega arith; stored = omega arith };
  net = net;
  stored = stored;
  received = refl;
  handed = refl;
  all = λ calm. refl;
}

pub lies-here : (u : Update) → u.vol ≡ 0 → u.block + blocks_in u.bytes ≤ VOLUME_BLOCKS → LiesIn (VOLUME_BLOCKS ∷ []) u
lies-here u is le = (VOLUME_BLOCKS, subst (λ v. slice_get (VOLUME_BLOCKS ∷ []) v ≡ Some VOLUME_BLOCKS) (sym is) refl, le)

pub lies-not : (u : Update) → (0 < u.vol) ⊎ (VOLUME_BLOCKS < u.block + blocks_in u.bytes) → LiesIn (VOLUME_BLOCKS ∷ []) u → ⊥
lies-not u how (size, at, le) = go u.vol at how
  where
    go : (v : ℕ) → slice_get (VOLUME_BLOCKS ∷ []) v ≡ Some size → (0 < v) ⊎ (VOLUME_BLOCKS < u.block + blocks_in u.bytes) → ⊥
    go zero here h = let e : VOLUME_BLOCKS ≡ size = some-one here in ⊎_elim (λ (o : 0 < 0). absurd (omega (arith, o))) (λ (o : VOLUME_BLOCKS < u.block + blocks_in u.bytes). absurd (omega (arith, o, e, le))) h
    go (suc v) here h = absurd (cc here)

pub next-not-generation : (net : ℕ) (u : Update) → 0 < u.line.generation → IsNextUpdate net u → ⊥
next-not-generation net u some n = let e : u.line.generation ≡ 0 = ap (λ l. l.generation) n.0 in omega (arith, e, some)

pub next-not-origin : (net : ℕ) (u : Update) → 0 < u.line.origin → IsNextUpdate net u → ⊥
next-not-origin net u some n = let e : u.line.origin ≡ 0 = ap (λ l. l.origin) n.0 in omega (arith, e, some)

pub next-when : (r : Bool) (net : ℕ) (u : Update) → u.line.generation ≡ 0 → u.line.origin ≡ 0 → u.number ≡ net + 1 → MatchBool r (LiesIn (VOLUME_BLOCKS ∷ []) u) (LiesIn (VOLUME_BLOCKS ∷ []) u → ⊥) → MatchBool r (IsNextUpdate net u) (IsNextUpdate net u → ⊥)
next-when true net u g o n l = ((λ i. record { generation = g i; origin = o i }), n, l)
next-when false net u g o n l = λ x. l x.2
