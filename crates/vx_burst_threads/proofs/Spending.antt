-- Why a worker ended, one step more.
use Rattle.std.proofs.Common.{◌≡◌, ◌⊎◌, ℕ, ◌+◌, ◌-◌, ◌^◌, ◌≤◌, [], ◌∷◌, ◌++◌, refl, ap, sym, ◌∙◌, subst, ⊎_elim, inl, inr, arith}
use Rattle.vx_model.specs.declared.call.Update.{Update}
use Rattle.vx_turn.specs.declared.ask.Ask.TheVariants.{Charged}
use Rattle.vx_turn.specs.declared.ask.Said.TheVariants.{Worked}
use Rattle.vx_turn.specs.declared.ask.Job.TheVariants.{Fetch}
use Rattle.vx_turn.specs.declared.ask.JobReply.{JobReply}
use Rattle.vx_turn.specs.declared.ask.JobReply.TheVariants as job
use Rattle.vx_turn.specs.declared.meaning.Entry.{Entry}
use Rattle.vx_turn.specs.declared.passes.Pass.{Pass}
use Rattle.vx_turn.specs.Acting.{LiesAmong}
use Rattle.vx_turn.specs.Passing.{seen_of, IsSame, Jobs}
use Rattle.vx_turn.proofs.Histories.{rose-wider}
use Rattle.vx_settle.specs.declared.peer.Ack.{Ack}
use Rattle.vx_settle.specs.declared.peer.Stand.{Stand}
use Rattle.vx_settle.specs.Peers.{PeerGoes, Hands, LiesIn}
use Rattle.vx_settle.proofs.Bringings.{goes-none, among-left, among-right}
use Rattle.vx_burst_threads.specs.declared.drainer.Next.{Next}
use Rattle.vx_burst_threads.specs.declared.drainer.Next.TheVariants as next
use Rattle.vx_burst_threads.specs.Writing.{KeepsPass}
use Rattle.vx_burst_threads.specs.Draining.{GaveNothing, AskedLast, IsSpent, LeadsOn}

nothing-wider : (reply : JobReply) (into : Update) (a b c d : Stand) → PeerGoes a b → PeerGoes c d → GaveNothing reply into b c → GaveNothing reply into a d
nothing-wider (job.Done m) into a b c d low high f = λ calm line lies. f (λ x. calm (rose-wider a.faults b.faults c.faults d.faults low.faults high.faults x)) (line ∙ high.line) (subst (λ l. LiesIn l into) high.sizes lies)
nothing-wider job.Nothing into a b c d low high f = tt
nothing-wider (job.Gone least) into a b c d low high f = tt
nothing-wider (job.Refused cause) into a b c d low high f = tt

-- a worker that is spent stays so where its peer receives no more
pub spent-later : (q r : Pass) (a b c d : Stand) → IsSpent q b c → PeerGoes a b → PeerGoes c d → d.net ≡ c.net → KeepsPass q r → IsSpent r a d
spent-later q r a b c d s low high same keeps = ⊎_elim
    (λ (x : AskedLast (seen_of q) q.number (c.net + 1) b c). inl (record {
      entry = x.entry;
      reply = x.reply;
      into = x.into;
      among = subst (LiesAmong x.entry) (sym keeps.4.1) (among-left x.entry (seen_of q) keeps.4.0 x.among);
      caller = x.caller ∙ sym keeps.0.1;
      asks = x.asks ∙ ap (λ n. Charged (Fetch (n + 1))) (sym same);
      says = x.says;
      nothing = nothing-wider x.reply x.into a b c d low high x.nothing;
    })) (λ (x : 2 ^ 64 - 1 ≤ c.net). inr (omega (arith, x, same))) s

asked-last : (p q : Pass) (a b : Stand) (n : ℕ) (reply : JobReply) (into : Update) → n ≡ b.net + 1 → Jobs p (Fetch n) reply into q → IsSame p q → GaveNothing reply into a b → AskedLast (seen_of q) q.number (b.net + 1) a b
asked-last p q a b n reply into is w same f = let c = w.1 in let e : Entry = record { caller = p.number; ask = Charged (Fetch n); said = Worked reply into; before = c.before; after = c.after } in record {
  entry = e;
  reply = reply;
  into = into;
  among = subst (LiesAmong e) (sym c.ends) (among-right e (seen_of p ++ c.between) (e ∷ []) (0, refl));
  caller = sym same.1;
  asks = ap (λ k. Charged (Fetch k)) is;
  says = refl;
  nothing = f;
}

-- a fetch that gave no update
pub spent-job : (p q : Pass) (a : Stand) (n net : ℕ) (reply : JobReply) (into : Update) → n ≡ net + 1 → net ≡ a.net → Jobs p (Fetch n) reply into q → IsSame p q → GaveNothing reply into a a → IsSpent q a a × (a.net ≡ a.net)
spent-job p q a n net reply into next is w same f = (inl (asked-last p q a a n reply into (omega (arith, next, is)) w same f), refl)

-- an update was handed over, and the peer has received no more then
pub spent-hand : (p q r : Pass) (a b : Stand) (n net m : ℕ) (reply : JobReply) (into : Update) (ack : Ack) → n ≡ net + 1 → net ≡ a.net → Jobs p (Fetch n) reply into q → IsSame p q → reply ≡ job.Done m → Hands a into ack b → ack.net ≤ net
    → KeepsPass q r → IsSpent r a b × (b.net ≡ a.net)
spent-hand p q r a b n net m reply into ack next is w same done h none keeps = (
  spent-later q r a a b b (inl (asked-last p q a b n reply into (omega (arith, next, is, still)) w same (subst (λ x. GaveNothing x into a b) (sym done) gone))) (goes-none a) (goes-none b) refl keeps,
  still,
)
  where
    still : b.net ≡ a.net
    still = let x = h.goes.net in let y = h.net in omega (arith, x, y, none, is)

    number : into.number ≡ a.net + 1
    number = let v : Jobs p (Fetch n) (job.Done m) into q = subst (λ z. Jobs p (Fetch n) z into q) done w in let g = v.1.given.1 in omega (arith, g, next, is)

    gone : GaveNothing (job.Done m) into a b
    gone calm line lies = let g = h.next calm (line ∙ h.goes.line) number (subst (λ l. LiesIn l into) h.goes.sizes lies) in absurd (omega (arith, g, still))

-- of a result that is known
pub leads-as : (x n : Next) (q : Pass) (a b : Stand) → x ≡ n → LeadsOn x q a b → LeadsOn n q a b
leads-as x n q a b is l = subst (λ y. LeadsOn y q a b) is l

-- a worker that has ended lets its peer finish
pub spent-finish : (q r : Pass) (a b c : Stand) → IsSpent q a b × (b.net ≡ a.net) → PeerGoes b c → c.net ≡ b.net → KeepsPass q r → IsSpent r a c × (c.net ≡ a.net)
spent-finish q r a b c s goes same keeps = (spent-later q r a a b c s.0 (goes-none a) goes same keeps, same ∙ s.1)

-- a worker that is to go on does so from what its peer has received
pub leads-from : (x : Next) (net : ℕ) (q : Pass) (a b : Stand) → x ≡ next.From net → LeadsOn x q a b → net ≡ b.net
leads-from x net q a b is l = subst (λ y. LeadsOn y q a b) is l
