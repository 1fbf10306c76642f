-- Parts of a line that settles a link, one after another, and how the line ends by them.
use Rattle.std.proofs.Common.{◌≡◌, ◌∙◌, ◌⊎◌, inl, inr, ◌++◌, ◌+◌, ◌≤◌, ℕ, List, [], ◌∷◌, Bool, true, false, refl, ap, sym, subst, append_assoc}
use Rattle.std.specs.Prelude.{◌≢◌, Some}
use Rattle.vx_model.specs.Content.{Write}
use Rattle.vx_model.specs.Sites.{is_origin}
use Rattle.vx_model.specs.declared.limits.TheConstants.{MOST_NUMBER}
use Rattle.vx_model.specs.declared.no.Counted.TheVariants.{Number}
use Rattle.vx_model.specs.declared.no.No.{No}
use Rattle.vx_model.specs.declared.no.No.TheVariants.{Device, Limit, Down as IsOff}
use Rattle.vx_history.specs.Doubts.{Doubted, Runs, crashed_as, halved, happened}
use Rattle.vx_history.specs.Events.{link_step, packet_at}
use Rattle.vx_history.specs.declared.sender.Action.TheVariants.{Nothing as SendsNothing}
use Rattle.vx_history.specs.declared.sender.SEvent.TheVariants.{Pump as PumpLink}
use Rattle.vx_history.specs.Settling.{is_between}
use Rattle.vx_history.specs.Stops.{IsFused, IsHeardAt, IsOpen}
use Rattle.vx_history.specs.World.{Node, Packet}
use Rattle.vx_history.specs.declared.event.Event.{Event}
use Rattle.vx_history.specs.declared.event.Event.TheVariants.{Apply, Connect, Deliver, Fault, Pump, Tick}
use Rattle.vx_script.specs.declared.line.ScriptLine.TheVariants.{Settle}
use Rattle.vx_events.specs.Facts.{head_of, site_number}
use Rattle.vx_events.specs.Fails.{Fails, IsLogDisk, IsSiteDisk}
use Rattle.vx_events.specs.LinkEnds.{AreLeft, LinkEnds}
use Rattle.vx_events.specs.LinkFinds.{ApplyCut, ApplyHalts, EndsBetween, GivesUp, HeaderCut, HeaderHalts, IsGivenUp, IsStored, IsUnread, MayTake, MovesBetween, PumpSends, kept_with, pumped_with, taken_with}
use Rattle.vx_events.specs.LinkLists.{link_events}
use Rattle.vx_events.specs.Parts.{StopsInPart, StopsShort}
use Rattle.vx_events.specs.Stamps.{most_stamp_at, stamps_of}
use Rattle.vx_events.specs.declared.said.Said.{Said}
use Rattle.vx_events.specs.declared.said.Said.TheVariants.{Refused, Settled}
use Rattle.vx_settling.specs.Between.{IsSent, MayMove}
use Rattle.vx_settling.specs.Ending.{CutsApplying, CutsIn, HaltsApplying, HaltsIn, IsUnreadIn, LacksNumber}
use Rattle.vx_settling.specs.Kinds.{AreSettling}
use Rattle.vx_settling.specs.Works.{CalmTold, FirstOf, Shortens, SettleStops, SettleWorks}
use Rattle.vx_settling.proofs.Ends.{head_is, settle_done}
use Rattle.vx_settling.proofs.Moving.{applies, begins, connects, delivers, keeps_other, line_finds, line_short, passes_then, pumps, pumps_other, still_fused, takes_other, ticks}
use Rattle.vx_settling.proofs.Running.{are_all, are_parts, no_fails, run_is, runs_only}
use Rattle.vx_events.proofs.LineTold.{links_told}
use Rattle.vx_settling.proofs.Stopping.{line_stops, runs_then, settle_part, stops_behind, stops_more}

module _ (told : Type 0) (p s : ℕ) where
  -- ---- one step

  module _ (d : Doubted) (may : MayMove p s d.world) where
    pub works_none : SettleWorks told p s d [] d
    works_none = record { exact = λ tells. refl; moves = begins p s d may }

    pub works_connect : SettleWorks told p s d (Connect p s ∷ []) (happened d (Connect p s) false)
    works_connect = record { exact = λ tells. (false, refl); moves = connects p s d may false }

    pub works_tick : SettleWorks told p s d (Tick p s ∷ []) (happened d (Tick p s) false)
    works_tick = record { exact = λ tells. (false, refl); moves = ticks p s d may false }

    pub works_pump : SettleWorks told p s d (Pump p s ∷ []) (happened d (Pump p s) false)
    works_pump = record { exact = λ tells. (false, refl); moves = pumps p s d may false }

    pub works_pump_other : (more : List Packet) → PumpSends d.world p s more → (told → ⊥) → SettleWorks told p s d (Pump p s ∷ []) (record d { world = pumped_with d.world p s more })
    works_pump_other more sends untold = record { exact = λ tells. absurd (untold tells); moves = pumps_other p s d may more sends }

    pub works_apply : (count reached : ℕ) → SettleWorks told p s d (Apply s count reached ∷ []) (happened d (Apply s count reached) false)
    works_apply count reached = record { exact = λ tells. (false, refl); moves = applies p s d may count reached false }

    module _ (number : ℕ) (q : Packet) (sent : IsSent p s q) where
      pub works_deliver : packet_at d.world.packets number ≡ Some q → is_between p s q ≡ true → SettleWorks told p s d (Deliver number ∷ []) (happened d (Deliver number) false)
      works_deliver at between = record { exact = λ tells. (false, refl); moves = delivers p s d may number q false at sent between }

      pub works_take_other : (x : Write) → (told → ⊥) → (takes : MayTake d.world number q)
          → SettleWorks told p s d (Deliver number ∷ []) (record d { world = taken_with d.world q takes.count x })
      works_take_other x untold takes = record { exact = λ tells. absurd (untold tells); moves = takes_other p s d may number q x takes sent }

      pub works_keep_other : (told → ⊥) → MayTake d.world number q → SettleWorks told p s d (Deliver number ∷ []) (record d { world = kept_with d.world q })
      works_keep_other untold takes = record { exact = λ tells. absurd (untold tells); moves = keeps_other p s d may number q takes sent }

      pub works_lose_other : (told → ⊥) → SettleWorks told p s d (Deliver number ∷ []) d
      works_lose_other untold = record { exact = λ tells. absurd (untold tells); moves = begins p s d may }

    -- ---- one step that stops

    -- a read of the log of p failed
    pub stops_unread : (disk : ℕ) → (link_step d.world p s PumpLink).action ≢ SendsNothing → IsLogDisk (d.world.nodes p) disk → SettleStops told p s d (Pump p s ∷ []) ((p, disk) ∷ []) (Refused (Device disk)) d
    stops_unread disk asks here = record {
      exact = λ tells. IsUnreadIn [] [] (Pump p s) p disk refl (refl, asks) refl refl here refl refl;
      other = λ untold. record { middle = d; moves = begins p s d may; ends = IsUnread disk asks here refl refl refl };
    }

    -- a disk failed in a header of p, or its fuse ran out there
    pub stops_header : (number disk : ℕ) → IsOpen (d.world.nodes p) → IsHeardAt d.world number p → IsLogDisk (d.world.nodes p) disk
        → SettleStops told p s d (Deliver number ∷ []) ((p, disk) ∷ []) (Refused (Device disk)) (halved d (Deliver number) p disk)
    stops_header number disk opens writes here = record {
      exact = λ tells. HaltsIn (Deliver number) p disk d (record { before = []; rest = []; split = refl; runs = refl; fails = refl; opens = opens; writes = writes }) here refl refl refl;
      other = λ untold. record { middle = d; moves = begins p s d may; ends = HeaderHalts number disk opens writes here refl refl refl };
    }

    pub cuts_header : (number kept : ℕ) (taken : Bool) → IsOpen (d.world.nodes p) → IsHeardAt d.world number p → IsFused (d.world.nodes p).fuse
        → SettleStops told p s d (Deliver number ∷ []) [] (Refused IsOff) (crashed_as (halved d (Deliver number) p 0) p kept taken)
    cuts_header number kept taken opens writes fused = record {
      exact = λ tells.
          CutsIn (Deliver number) p kept taken d (record { before = []; rest = []; split = refl; runs = refl; fails = refl; opens = opens; writes = writes }) fused refl refl refl;
      other = λ untold. record { middle = d; moves = begins p s d may; ends = HeaderCut number kept taken opens writes fused refl refl refl };
    }

    -- a disk failed as s applied what waits there, or its fuse ran out
    pub stops_apply : (count reached disk : ℕ) → IsOpen (d.world.nodes s) → IsSiteDisk ((happened d (Fault s disk) false).world.nodes s) disk
        → SettleStops told p s d (Apply s count reached ∷ []) ((s, disk) ∷ []) (Refused (Device disk)) (happened d (Fault s disk) false)
    stops_apply count reached disk opens here = record {
      exact = λ tells. HaltsApplying [] [] s count reached disk refl (false, refl) refl here refl refl;
      other = λ untold. record { middle = d; moves = begins p s d may; ends = ApplyHalts disk opens here refl refl refl };
    }

    pub cuts_apply : (count reached kept : ℕ) (taken : Bool) → kept ≤ (d.world.nodes s).safe + count → IsOpen (d.world.nodes s) → IsFused (d.world.nodes s).fuse
        → SettleStops told p s d (Apply s count reached ∷ []) [] (Refused IsOff) (crashed_as (halved d (Fault s 0) s 0) s kept taken)
    cuts_apply count reached kept taken few opens fused = record {
      exact = λ tells. CutsApplying [] [] s count reached kept taken d refl refl refl few opens fused refl refl refl;
      other = λ untold. record { middle = d; moves = begins p s d may; ends = ApplyCut kept taken opens fused refl refl refl };
    }

    -- no number is left for a header of p, or for what waits at s
    pub lacks_header : (number : ℕ) → IsHeardAt d.world number p → (told → MOST_NUMBER ≤ most_stamp_at d.world p + stamps_of (Deliver number) d.world p)
        → SettleStops told p s d (Deliver number ∷ []) [] (Refused (Limit Number MOST_NUMBER)) d
    lacks_header number writes lacks = record {
      exact = λ tells. LacksNumber [] [] (Deliver number) p refl writes refl refl lacks refl refl;
      other = λ untold. record { middle = d; moves = begins p s d may; ends = GivesUp (Limit Number MOST_NUMBER) (inr refl) refl refl refl };
    }

    pub lacks_apply : (count reached : ℕ) → (told → MOST_NUMBER ≤ most_stamp_at d.world s + stamps_of (Apply s count reached) d.world s)
        → SettleStops told p s d (Apply s count reached ∷ []) [] (Refused (Limit Number MOST_NUMBER)) d
    lacks_apply count reached lacks = record {
      exact = λ tells. LacksNumber [] [] (Apply s count reached) s refl refl refl refl lacks refl refl;
      other = λ untold. record { middle = d; moves = begins p s d may; ends = GivesUp (Limit Number MOST_NUMBER) (inr refl) refl refl refl };
    }

    -- any other refusal comes of disks that tell no contents
    pub gives_up : (events : List Event) (why : No) → (told → ⊥) → IsGivenUp why → SettleStops told p s d events [] (Refused why) d
    gives_up events why untold other = record {
      exact = λ tells. absurd (untold tells);
      other = λ _. record { middle = d; moves = begins p s d may; ends = GivesUp why other refl refl refl };
    }

    -- memory ran out before the first event
    pub short_none : (events : List Event) → Shortens told p s d events d
    short_none events = record { exact = λ tells. record { before = []; rest = events; split = refl; runs = refl }; moves = begins p s d may }

  -- ---- several

  module _ (d m : Doubted) (xs ys : List Event) where
    pub works_then : (n : Doubted) → SettleWorks told p s d xs m → SettleWorks told p s m ys n → SettleWorks told p s d (xs ++ ys) n
    works_then n one two = record { exact = λ tells. runs_then d m n xs ys (one.exact tells) (two.exact tells); moves = passes_then p s d m n one.moves two.moves }

    pub stop_more : (fails : Fails) (said : Said) (last : Doubted) → SettleStops told p s d xs fails said last → SettleStops told p s d (xs ++ ys) fails said last
    stop_more fails said last stop = record { exact = λ tells. stops_more told d xs ys fails said last (stop.exact tells); other = stop.other }

    -- an end behind more that passed
    ends_then : (middle : Doubted) (fails : Fails) (said : Said) (last : Doubted) → MovesBetween p s d m → EndsBetween p s m middle fails said last → EndsBetween p s d middle fails said last
    ends_then middle fails said last moved (IsStored stored none is leaves) = IsStored stored none is leaves
    ends_then middle fails said last moved (GivesUp why other none is leaves) = GivesUp why other none is leaves
    ends_then middle fails said last moved (IsUnread disk asks here one is leaves) = IsUnread disk asks here one is leaves
    ends_then middle fails said last moved (HeaderHalts number disk opens writes here one is leaves) = HeaderHalts number disk opens writes here one is leaves
    ends_then middle fails said last moved (ApplyHalts disk opens here one is leaves) = ApplyHalts disk opens here one is leaves
    ends_then middle fails said last moved (HeaderCut number kept taken opens writes fused none is leaves) =
        HeaderCut number kept taken opens writes (still_fused p s d m moved p fused) none is leaves
    ends_then middle fails said last moved (ApplyCut kept taken opens fused none is leaves) = ApplyCut kept taken opens (still_fused p s d m moved s fused) none is leaves

    pub stop_then : (fails : Fails) (said : Said) (last : Doubted) → AreSettling xs → SettleWorks told p s d xs m → SettleStops told p s m ys fails said last → SettleStops told p s d (xs ++ ys) fails said last
    stop_then fails said last are one stop = record {
      exact = λ tells. stops_behind told d m xs ys fails said last (one.exact tells) (no_fails xs are) (still_fused p s d m one.moves) (stop.exact tells);
      other = λ untold.
          let rest = stop.other untold in
          record {
            middle = rest.middle;
            moves = passes_then p s d m rest.middle one.moves rest.moves;
            ends = ends_then rest.middle fails said last one.moves rest.ends;
          };
    }

    pub short_then : (n : Doubted) → SettleWorks told p s d xs m → Shortens told p s m ys n → Shortens told p s d (xs ++ ys) n
    short_then n one short = record {
      exact = λ tells.
          let first = short.exact tells in
          record {
            before = xs ++ first.before;
            rest = first.rest;
            split = ap (λ (es : List Event). xs ++ es) first.split ∙ sym (append_assoc xs first.before first.rest);
            runs = runs_then d m n xs first.before (one.exact tells) first.runs;
          };
      moves = passes_then p s d m n one.moves short.moves;
    }

  pub short_more : (d n : Doubted) (xs ys : List Event) → Shortens told p s d xs n → Shortens told p s d (xs ++ ys) n
  short_more d n xs ys short = record {
    exact = λ tells.
        let first = short.exact tells in
        record {
          before = first.before;
          rest = first.rest ++ ys;
          split = ap (λ (es : List Event). es ++ ys) first.split ∙ append_assoc first.before first.rest ys;
          runs = first.runs;
        };
    moves = short.moves;
  }

  -- the events done so far are all of a first part of the list
  pub short_here : (d e : Doubted) (xs ys : List Event) → SettleWorks told p s d xs e → Shortens told p s d (xs ++ ys) e
  short_here d e xs ys one = record { exact = λ tells. record { before = xs; rest = ys; split = refl; runs = one.exact tells }; moves = one.moves }

-- ---- the line

module _ (told : Type 0) (d : Doubted) (known : CalmTold told d ⊎ (CalmTold told d → ⊥)) (p s : List ℕ) where
  abbrev a : ℕ
  a = site_number d.world p

  abbrev b : ℕ
  b = site_number d.world s

  abbrev all : List Event
  all = link_events d.world (Settle p s)

  -- all is done, and it has to be seen that all is stored
  pub line_done : (last new : Doubted) → is_origin (d.world.nodes a).role ≡ true → SettleWorks (CalmTold told d) a b d all last
      → (d.world.nodes a).safe ≤ (last.world.links a b).stored → AreLeft (Settle p s) d last new
      → LinkEnds told d (Settle p s) [] (Settled (d.world.nodes a).safe) new
  line_done last new origin one stored left = elim known [
    | inl tells ↦ settle_done d last p s origin (one.exact tells) told new stored left
    | inr untold ↦
        let m = one.moves in
        let same : last.world.nodes a ≡ d.world.nodes a = m.nodes a (λ (here : a ≡ b). m.apart (sym here)) in
        line_finds told d last p s m [] (Settled (d.world.nodes a).safe) last new (λ tells calm. untold (tells, calm))
        (IsStored (subst (λ (n : Node). n.safe ≤ (last.world.links a b).stored) (sym same) stored) refl
        (ap (λ (n : ℕ). Settled n) (sym (ap head_of same ∙ head_is (d.world.nodes a) origin))) refl) left
  ]

  -- it stopped
  pub line_stopped : (fails : Fails) (said : Said) (last new : Doubted) → SettleStops (CalmTold told d) a b d all fails said last → AreLeft (Settle p s) d last new
      → LinkEnds told d (Settle p s) fails said new
  line_stopped fails said last new stop left = elim known [
    | inl tells ↦
        let more : told → CalmTold told d = λ t. (t, tells.1) in
        links_told more d (Settle p s) fails said new
        (line_stops (CalmTold told d) d (Settle p s) fails said last new (stop.exact tells) left)
    | inr untold ↦
        let rest = stop.other untold in
        line_finds told d rest.middle p s rest.moves fails said last new (λ tells calm. untold (tells, calm)) rest.ends left
  ]

  -- memory ran out: before the first event, or behind some, so that the line notes what it does
  pub line_shortened : (last : Doubted) → Shortens (CalmTold told d) a b d all last
      → (StopsShort told d (Settle p s) d × (last ≡ d)) ⊎ ((new : Doubted) → AreLeft (Settle p s) d last new → StopsShort told d (Settle p s) new)
  line_shortened last short = elim known [
    | inl tells ↦ by_first (short.exact tells)
    | inr untold ↦ inr (λ new left. line_short told d last p s short.moves new (λ tells calm. untold (tells, calm)) left)
  ]
    where
      by_list : (before rest : List Event) → all ≡ before ++ rest → Runs d before last
          → (StopsShort told d (Settle p s) d × (last ≡ d)) ⊎ ((new : Doubted) → AreLeft (Settle p s) d last new → StopsShort told d (Settle p s) new)
      by_list [] rest split runs = inl (StopsInPart (settle_part d p s [] rest d split refl), runs)
      by_list (e ∷ es) rest split runs =
          let are = are_parts (e ∷ es) rest (subst AreSettling split (are_all d.world a b)) in
          let same = runs_only d last (e ∷ es) are.0 runs ∙ sym (run_is d (e ∷ es) are.0) in
          inr (λ new left. StopsInPart (settle_part d p s (e ∷ es) rest new split (subst (λ (x : Doubted). AreLeft (Settle p s) d x new) same left)))

      by_first : FirstOf d all last
          → (StopsShort told d (Settle p s) d × (last ≡ d)) ⊎ ((new : Doubted) → AreLeft (Settle p s) d last new → StopsShort told d (Settle p s) new)
      by_first first = by_list first.before first.rest first.split first.runs

-- whether contents are told, and the world has not strayed
pub is_known : (told strayed : Bool) → ((told ≡ true) × (strayed ≡ false)) ⊎ ((told ≡ true) × (strayed ≡ false) → ⊥)
is_known true false = inl (refl, refl)
is_known true true = inr (λ both. absurd (let e : true ≡ false = both.1 in cc))
is_known false strayed = inr (λ both. absurd (let e : false ≡ true = both.0 in cc))
