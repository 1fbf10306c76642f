-- What one thread does over an engine and its peers.
use Rattle.std.specs.Prelude.{◌≡◌, ◌⊎◌, ℕ, ◌+◌, ◌<◌, ◌≤◌, true, false, List, [], ◌∷◌, ◌++◌, length, slice_get, Option, Some, IfSome, IfNone}
use Rattle.vx_model.specs.declared.call.Call.{Call}
use Rattle.vx_model.specs.declared.call.Reply.{Reply}
use Rattle.vx_model.specs.declared.call.Update.{Update}
use Rattle.vx_model.specs.declared.no.No.{No}
use Rattle.vx_model.specs.declared.no.No.TheVariants as no
use Rattle.vx_turn.specs.declared.ask.Ask.{Ask}
use Rattle.vx_turn.specs.declared.ask.Ask.TheVariants.{Ordered, Charged}
use Rattle.vx_turn.specs.declared.ask.Said.{Said}
use Rattle.vx_turn.specs.declared.ask.Said.TheVariants.{Replied, Worked}
use Rattle.vx_turn.specs.declared.ask.Job.{Job}
use Rattle.vx_turn.specs.declared.ask.Job.TheVariants.{Fetch, Acked, Wait}
use Rattle.vx_turn.specs.declared.ask.JobReply.TheVariants as job
use Rattle.vx_turn.specs.declared.meaning.State.{State}
use Rattle.vx_turn.specs.Acting.{LiesAmong, EngineActs, Rises, CountRose, IsBound}
use Rattle.vx_settle.specs.declared.bringing.Ended.{Ended}
use Rattle.vx_settle.specs.declared.bringing.Ended.TheVariants as ended
use Rattle.vx_settle.specs.declared.peer.Stand.{Stand}
use Rattle.vx_settle.specs.Peers.{LiesIn, PeerGoes, GetsNext}

-- what an engine was asked and said, in order
abbrev pub Events : Type 0
Events = List (Ask × Said)

-- a job, and its reply
abbrev pub IsJob : Ask → Said → Type 0
IsJob (Charged j) (Worked reply into) = Unit {0}
IsJob ask said = ⊥

-- the peer's link is one of the engine's
abbrev pub HasLink : State → Stand → Type 0
HasLink s p = p.link < length s.nets

abbrev pub HaveLinks : {P : Type 0} → (P → Stand) → State → List P → Type 0
HaveLinks {P} stand s ps = (i : ℕ) (p : P) → slice_get ps i ≡ Some p → HasLink s (stand p)

-- the engine did jobs, and nothing else
pub record EngineMoves (s t : State) : Type 0 where
  pub more : Events
  pub trail : t.trail ≡ s.trail ++ more
  pub jobs : (ask : Ask) (said : Said) → LiesAmong (ask, said) more → IsJob ask said
  pub rises : Rises s.counts t.counts
  pub halts : t.halted ≡ true → (s.halted ≡ true) ⊎ CountRose s.counts.faults t.counts.faults
  pub line : t.line ≡ s.line
  pub volumes : t.volumes ≡ s.volumes
  pub ring : t.ring ≡ s.ring
  pub head : t.head ≡ s.head
  pub links : length t.nets ≡ length s.nets
  pub keeps : (u : Update) → LiesAmong u t.kept → LiesAmong u s.kept

-- the peer went on: it got the next updates of its line, each of which was one of these
pub record Walks (kept : List Update) (p q : Stand) : Type 0 where
  pub goes : PeerGoes p q
  pub got : List Update
  pub took : GetsNext p got q
  pub from : (u : Update) → LiesAmong u got → LiesAmong u kept

-- no job was refused for a greatest number or a digest
abbrev pub NoLimit : Events → Type 0
NoLimit es = (j : Job) (cause : No) (into : Update) → LiesAmong (Charged j, Worked (job.Refused cause) into) es → IsBound cause → ⊥

-- no fetch of this number was told that it is gone
abbrev pub NoGone : ℕ → Events → Type 0
NoGone n es = (low : ℕ) (into : Update) → LiesAmong (Charged (Fetch n), Worked (job.Gone low) into) es → ⊥

-- the link was acknowledged, and not refused, with two numbers that are not below this one
abbrev pub HasAcked : ℕ → ℕ → Events → Type 0
HasAcked link head es = (net stored n : ℕ) × (into : Update) × (head ≤ net) × (head ≤ stored) × LiesAmong (Charged (Acked link net stored), Worked (job.Done n) into) es

-- no acknowledgement
abbrev pub NoAck : Events → Type 0
NoAck es = (link net stored : ℕ) (said : Said) → LiesAmong (Charged (Acked link net stored), said) es → ⊥

-- each acknowledgement is of this peer's link, and its numbers are not above the peer's
abbrev pub AcksFit : Stand → Events → Type 0
AcksFit q es = (link net stored : ℕ) (said : Said) → LiesAmong (Charged (Acked link net stored), said) es → (link ≡ q.link) × (net ≤ q.net) × (stored ≤ q.stored)

-- nothing stood in the way of the link
pub record Drains (s : State) (p : Stand) (t : State) (q : Stand) (more : Events) : Type 0 where
  pub runs : s.halted ≡ false
  pub whole : CountRose s.counts.faults t.counts.faults → ⊥
  pub limit : NoLimit more
  pub line : p.line ≡ s.line
  pub sound : CountRose p.faults q.faults → ⊥
  pub within : (u : Update) → LiesAmong u s.kept → LiesIn p.sizes u
  pub there : NoGone (q.net + 1) more

-- one fetch and what came of it
pub record Steps (s : State) (p : Stand) (r : Option ℕ) (t : State) (q : Stand) : Type 0 where
  pub moves : EngineMoves s t
  pub walks : Walks s.kept p q
  pub some : IfSome r (λ m. (m ≡ q.net) × (p.net < m))
  pub none : IfNone r (Drains s p t q moves.more → ⊥)
  pub quiet : NoAck moves.more

-- the peer was handed all that it took
pub record Climbs (s : State) (p : Stand) (t : State) (q : Stand) : Type 0 where
  pub moves : EngineMoves s t
  pub walks : Walks s.kept p q
  pub reached : Drains s p t q moves.more → s.head ≤ q.net
  pub quiet : NoAck moves.more

-- the peer was brought as far as it goes, and has acknowledged the last logged number where nothing stood in the way
pub record BringsPeer (s : State) (p : Stand) (t : State) (q : Stand) : Type 0 where
  pub moves : EngineMoves s t
  pub walks : Walks s.kept p q
  pub acked : Drains s p t q moves.more → HasAcked p.link s.head moves.more
  pub fits : AcksFit q moves.more

-- each peer was brought, one after the other
module _ {P : Type 0} (stand : P → Stand) (root : P → P) where
  pub record IsBrought (s : State) (p : P) (t : State) (q : P) (more : Events) : Type 0 where
    pub walks : Walks s.kept (stand p) (stand q)
    pub acked : Drains s (stand p) t (stand q) more → HasAcked (stand p).link s.head more
    pub rooted : root q ≡ root p

  pub record BringsAll (s : State) (ps : List P) (t : State) (qs : List P) : Type 0 where
    pub moves : EngineMoves s t
    pub long : length qs ≡ length ps
    pub each : (i : ℕ) (p q : P) → slice_get ps i ≡ Some p → slice_get qs i ≡ Some q → IsBrought s p t q moves.more
    pub fits : (link net stored : ℕ) (said : Said) → LiesAmong (Charged (Acked link net stored), said) moves.more → (i : ℕ) × (q : P) × (slice_get qs i ≡ Some q) × (link ≡ (stand q).link) × (net ≤ (stand q).net) × (stored ≤ (stand q).stored)

  -- behind the jobs that brought the peers, at the state `mid`, the call was asked
  pub record AsksAgain (s : State) (ps : List P) (call : Call) (reply : Reply) (t : State) (qs : List P) : Type 0 where
    pub mid : State
    pub brings : BringsAll s ps mid qs
    pub acts : EngineActs mid (Ordered call) (Replied reply) t

-- how a wait that was refused ends: with 15 or not
abbrev pub WaitEndsBy : No → Ended → Type 0
WaitEndsBy cause r = ((r ≡ ended.Unconfirmed) × (m : ℕ) × (cause ≡ no.Unconfirmed m)) ⊎ ((r ≡ ended.No) × ((m : ℕ) → cause ≡ no.Unconfirmed m → ⊥))

-- one wait: it answered Done, or was refused with 15, or answered Nothing where nothing else stood in its way
pub record Once (s : State) (n : ℕ) (r : Ended) (t : State) : Type 0 where
  pub reply : Said
  pub moves : EngineMoves s t
  pub one : moves.more ≡ (Charged (Wait n), reply) ∷ []
  pub done : r ≡ ended.Done → (m : ℕ) × (into : Update) × (reply ≡ Worked (job.Done m) into) × (m ≡ n)
  pub unconfirmed : r ≡ ended.Unconfirmed → (into : Update) × (reply ≡ Worked (job.Refused (no.Unconfirmed n)) into)
  pub no : r ≡ ended.No → s.halted ≡ false → (CountRose s.counts.faults t.counts.faults → ⊥) → NoLimit moves.more → n ≤ s.head → (into : Update) × (reply ≡ Worked job.Nothing into)

module _ {P : Type 0} (stand : P → Stand) (root : P → P) where
  pub record WaitsFor (s : State) (ps : List P) (n : ℕ) (r : Ended) (t : State) (qs : List P) : Type 0 where
    pub mid : State
    pub brings : BringsAll stand root s ps mid qs
    pub once : Once mid n r t
