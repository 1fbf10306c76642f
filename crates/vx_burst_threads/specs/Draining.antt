-- What a link's worker has done.
use Rattle.std.specs.Prelude.{◌≡◌, ◌⊎◌, ℕ, ◌+◌, ◌-◌, ◌^◌, ◌<◌, ◌≤◌, List, ◌++◌, length}
use Rattle.vx_model.specs.declared.call.Update.{Update}
use Rattle.vx_turn.specs.declared.ask.Ask.{Ask}
use Rattle.vx_turn.specs.declared.ask.Ask.TheVariants.{Ordered, Charged}
use Rattle.vx_turn.specs.declared.ask.Said.TheVariants.{Worked}
use Rattle.vx_turn.specs.declared.ask.Job.TheVariants.{Acked, Fetch}
use Rattle.vx_turn.specs.declared.ask.JobReply.{JobReply}
use Rattle.vx_turn.specs.declared.ask.JobReply.TheVariants as job
use Rattle.vx_turn.specs.declared.meaning.Entry.{Entry}
use Rattle.vx_turn.specs.declared.passes.Pass.{Pass}
use Rattle.vx_turn.specs.Acting.{LiesAmong, CountRose}
use Rattle.vx_turn.specs.History.{HasLogged}
use Rattle.vx_turn.specs.Passing.{seen_of, start_of, mine_of}
use Rattle.vx_settle.specs.declared.peer.Stand.{Stand}
use Rattle.vx_settle.specs.Peers.{PeerGoes, LiesIn, GetsNext}
use Rattle.vx_burst_threads.specs.declared.drainer.Drainer.{Drainer}
use Rattle.vx_burst_threads.specs.declared.drainer.Next.{Next}
use Rattle.vx_burst_threads.specs.declared.drainer.Next.TheVariants as next
use Rattle.vx_burst_threads.specs.Writing.{KeepsPass}

-- the peer's link is one of the engine's
abbrev pub IsLinked : Pass → Stand → Type 0
IsLinked p a = a.link < length (start_of p).nets

-- a worker does jobs alone, and acknowledges for its peer's link what is not above the peer's numbers
abbrev pub JobFits : Stand → Ask → Type 0
JobFits a (Charged (Acked link net stored)) = (link ≡ a.link) × (net ≤ a.net) × (stored ≤ a.stored)
JobFits a (Ordered call) = ⊥
JobFits a ask = Unit {0}

-- so is each entry of this caller
abbrev pub JobsFit : List Entry → ℕ → Stand → Type 0
JobsFit log by a = (e : Entry) → LiesAmong e log → e.caller ≡ by → JobFits a e.ask

-- the pass has seen all of its own entries
abbrev pub MineWithin : Pass → Type 0
MineWithin p = (place : ℕ) → LiesAmong place (mine_of p) → place ≤ length (seen_of p)

-- the worker went on: its peer got the next updates of its line, each of which was logged in what the worker has seen, or kept at the start
pub record Drained (p : Pass) (a : Stand) (q : Pass) (b : Stand) : Type 0 where
  pub keeps : KeepsPass p q
  pub goes : PeerGoes a b
  pub got : List Update
  pub took : GetsNext a got b
  pub from : (u : Update) → LiesAmong u got → LiesAmong u (start_of q).kept ⊎ HasLogged (start_of q).line (seen_of q) u
  pub jobs : JobsFit (seen_of p) p.number a → JobsFit (seen_of q) q.number b
  pub within : MineWithin p → MineWithin q

-- a fetch gave no update, or one that a peer which had no fault meanwhile could not take: of another line, or past its volumes
abbrev pub GaveNothing : JobReply → Update → Stand → Stand → Type 0
GaveNothing (job.Done m) into a b = (CountRose a.faults b.faults → ⊥) → into.line ≡ b.line → LiesIn b.sizes into → ⊥
GaveNothing reply into a b = Unit {0}

-- the caller asked for the update of this number, and got nothing to hand over
pub record AskedLast (log : List Entry) (by number : ℕ) (a b : Stand) : Type 0 where
  pub entry : Entry
  pub reply : JobReply
  pub into : Update
  pub among : LiesAmong entry log
  pub caller : entry.caller ≡ by
  pub asks : entry.ask ≡ Charged (Fetch number)
  pub says : entry.said ≡ Worked reply into
  pub nothing : GaveNothing reply into a b

-- why a worker whose peer was a ended: behind all that its peer b has received there was nothing to hand over, or no number is left
abbrev pub IsSpent : Pass → Stand → Stand → Type 0
IsSpent q a b = AskedLast (seen_of q) q.number (b.net + 1) a b ⊎ (2 ^ 64 - 1 ≤ b.net)

-- the worker goes on from what its peer has received, or is spent, and its peer has received no more
abbrev pub LeadsOn : Next → Pass → Stand → Stand → Type 0
LeadsOn (next.From net) q a b = net ≡ b.net
LeadsOn n q a b = IsSpent q a b × (b.net ≡ a.net)

abbrev pub DrainedWith : {P : Type 0} → (P → Stand) → (P → P) → Drainer P → Drainer P → Type 0
DrainedWith stand root w x = Drained w.pass (stand w.peer) x.pass (stand x.peer) × (root x.peer ≡ root w.peer) × IsSpent x.pass (stand w.peer) (stand x.peer)
