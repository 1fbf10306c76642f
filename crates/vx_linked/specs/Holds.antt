-- What a write of a site has to do with its links in memory.
use Rattle.std.specs.Prelude.{◌≡◌, ℕ, zero, suc, ◌-◌, ◌^◌, min, nat_lt, slice_get, Bool, true, ◌&&◌, List, [], ◌∷◌, Some, if◌then◌else◌}
use Rattle.std.specs.List.{list_any}
use Rattle.vx_order.specs.Sending.{last_number}
use Rattle.vx_history.specs.Admission.{hold, is_holding, is_live_link, is_log}
use Rattle.vx_history.specs.Refusals.{waits}
use Rattle.vx_order.specs.declared.facts.LinkFacts.{LinkFacts}
use Rattle.vx_order.specs.declared.facts.SiteFacts.{SiteFacts}
use Rattle.vx_effects.specs.Facts.{grown_link}

-- the lesser of a number and the hold of a link, where that needs the log
abbrev pub lesser_hold : ℕ → LinkFacts → ℕ
lesser_hold number l = if is_holding l.link then min number (hold l.link) else number

abbrev pub held_from : ℕ → List LinkFacts → ℕ
held_from number [] = number
held_from number (l ∷ ls) = held_from (lesser_hold number l) ls

-- the number up to which no link of the site needs anything of the log: the least hold of those that need it, or the last number
abbrev pub least_hold : SiteFacts → ℕ
least_hold site = held_from (last_number site.rvg) site.links

-- the number is the hold of one of these links, which needs the log
pub record HeldBy (number : ℕ) (ls : List LinkFacts) : Type 0 where
  pub place : ℕ
  pub link : LinkFacts
  pub there : slice_get ls place ≡ Some link
  pub needs : is_holding link.link ≡ true
  pub is : number ≡ hold link.link

-- a live link by the log which writes wait for
abbrev pub awaits : LinkFacts → Bool
awaits l = waits l.link.sync && (is_live_link l.link && is_log l.link.mode)

-- some link has to confirm a write
abbrev pub awaits_one : SiteFacts → Bool
awaits_one site = list_any awaits site.links

-- the blocks that the link needs can't be counted with so many more
abbrev pub is_over : (blocks : ℕ) → LinkFacts → Bool
is_over blocks l = nat_lt (2 ^ 64 - 1 - blocks) l.used

-- the first links, so many, behind a further write
abbrev pub grown_below : (number blocks : ℕ) → (k : ℕ) → List LinkFacts → List LinkFacts
grown_below number blocks zero links = links
grown_below number blocks (suc k) [] = []
grown_below number blocks (suc k) (l ∷ ls) = grown_link number blocks l ∷ grown_below number blocks k ls
