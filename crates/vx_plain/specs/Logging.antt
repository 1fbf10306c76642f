-- What an engine with one small volume and a log in memory stands for.
use Rattle.std.specs.Prelude.{◌≡◌, ℕ, suc, ◌≤◌, Bool, true, false, List, [], ◌∷◌, ◌++◌, length, replicate}
use Rattle.vx_model.specs.Content.{put, zero_block}
use Rattle.vx_model.specs.declared.call.Update.{Update}
use Rattle.vx_model.specs.declared.no.No.{No}
use Rattle.vx_turn.specs.declared.ask.Ask.{Ask}
use Rattle.vx_turn.specs.declared.ask.Ask.TheVariants.{Charged}
use Rattle.vx_turn.specs.declared.ask.Said.{Said}
use Rattle.vx_turn.specs.declared.ask.Said.TheVariants.{Worked}
use Rattle.vx_turn.specs.declared.ask.Job.TheVariants.{Fetch}
use Rattle.vx_turn.specs.declared.ask.JobReply.{JobReply}
use Rattle.vx_turn.specs.declared.ask.JobReply.TheVariants as job
use Rattle.vx_turn.specs.declared.meaning.State.{State}
use Rattle.vx_turn.specs.Acting.{EngineActs, CountRose, IsHoldCause}
use Rattle.vx_turn.specs.Volumes.{as_content, blocks_as}
use Rattle.vx_settle.specs.Bringing.{Events}
use Rattle.vx_plain.specs.declared.small.Core.{Core}
use Rattle.vx_plain.specs.declared.small.Slip.{Slip}
use Rattle.vx_plain.specs.declared.small.TheConstants.{VOLUME_BLOCKS, RING_BLOCKS}

-- the blocks of a volume after one logged write
abbrev pub blocks_after : List (List ℕ) → Slip → List (List ℕ)
blocks_after bs s = blocks_as (put (as_content (bs ∷ [])) (record { volume = s.vol; start = s.start; bytes = s.bytes })) 0 0 bs

-- the same after several
abbrev pub blocks_after_all : List (List ℕ) → List Slip → List (List ℕ)
blocks_after_all bs [] = bs
blocks_after_all bs (s ∷ ss) = blocks_after_all (blocks_after bs s) ss

-- a volume of zeros
abbrev pub blank_volume : List (List ℕ)
blank_volume = replicate VOLUME_BLOCKS zero_block

abbrev pub update_for : ℕ → Slip → Update
update_for n s = record { line = record { generation = 0; origin = 0 }; number = n; vol = s.vol; block = s.start; bytes = s.bytes }

-- the updates of a log, of which the first has the number suc n
abbrev pub kept_from : ℕ → List Slip → List Update
kept_from n [] = []
kept_from n (s ∷ ss) = update_for (suc n) s ∷ kept_from (suc n) ss

abbrev pub logging : Core → Events → State
logging c events = record {
  volumes = blocks_after_all blank_volume c.slips.items ∷ [];
  ring = RING_BLOCKS;
  head = length c.slips.items;
  applied = length c.slips.items;
  line = record { generation = 0; origin = 0 };
  kept = kept_from 0 c.slips.items;
  nets = c.nets;
  counts = record { faults = c.faults; held = c.held };
  halted = false;
  trail = events;
}

-- the log does as an engine must, where it was asked this and said that
abbrev pub Does : Core → Ask → Said → Core → Type 0
Does c ask said d = (xs ys : Events) → ys ≡ xs ++ (ask, said) ∷ [] → EngineActs (logging c xs) ask said (logging d ys)

-- a count that rises and stays within its type
abbrev pub RaisesCount : ℕ → ℕ → Type 0
RaisesCount n m = (n ≤ m) × CountRose n m

-- a write was held for this, and nothing else changed
abbrev pub HeldFor : Core → No → Core → Type 0
HeldFor c cause d = IsHoldCause cause × RaisesCount c.held d.held × (d.slips.items ≡ c.slips.items) × (d.nets ≡ c.nets) × (d.faults ≡ c.faults)

-- one more stands behind the others, or there was no memory for it
abbrev pub Grew : {A : Type 0} → List A → A → Bool → List A → Type 0
Grew xs x true ys = ys ≡ xs ++ x ∷ []
Grew xs x false ys = ys ≡ xs

-- a log answers a fetch so
abbrev pub AnswersFetch : Core → ℕ → JobReply → Update → Type 0
AnswersFetch c n reply into = Does c (Charged (Fetch n)) (Worked reply into) c
