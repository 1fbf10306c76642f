-- The tests of a further link.
use Rattle.std.specs.Prelude.{ℕ, Bool, true, false, not, ◌&&◌, ◌||◌, ◌==◌, nat_le, List, [], ◌∷◌, Option, Some, None, is_some, slice_get, if◌then◌else◌}
use Rattle.vx_history.specs.Refusals.{is_primary}
use Rattle.vx_model.specs.declared.history.Line.{Line}
use Rattle.vx_model.specs.declared.limits.TheConstants.{MOST_LINKS}
use Rattle.vx_model.specs.declared.no.Counted.TheVariants.{Links}
use Rattle.vx_model.specs.declared.no.No.{No}
use Rattle.vx_model.specs.declared.no.No.TheVariants.{Exists, Size, Limit}
use Rattle.vx_model.specs.Sites.{same_line, first_line}
use Rattle.vx_order.specs.declared.ask.Ask.{Ask}
use Rattle.vx_order.specs.declared.ask.Ask.TheVariants.{Makes}
use Rattle.vx_order.specs.declared.facts.SiteFacts.{SiteFacts}
use Rattle.vx_order.specs.declared.facts.VolumeFacts.{VolumeFacts}
use Rattle.vx_order.specs.declared.facts.RvgFacts.{RvgFacts}
use Rattle.vx_order.specs.declared.facts.LinkFacts.{LinkFacts}
use Rattle.vx_order.specs.Calls.{is_data}
use Rattle.vx_order.specs.Links.{link_towards, link_count}
use Rattle.vx_order.specs.Sites.{rvg_of}
use Rattle.vx_order.specs.Tests.{when}

-- a primary that has logged nothing
abbrev pub is_unused : Option RvgFacts → Bool
is_unused None = false
is_unused (Some rvg) = is_primary rvg.role && rvg.last == 0

abbrev pub is_first : Option ℕ → Line → Bool
is_first None line = false
is_first (Some here) line = same_line line (first_line here)

-- it stands on the line that its own site began first
abbrev pub on_first : Option ℕ → Option RvgFacts → Bool
on_first here None = false
on_first here (Some rvg) = is_first here rvg.line

abbrev pub are_two : Option ℕ → Option ℕ → Bool
are_two None there = false
are_two (Some here) None = false
are_two (Some here) (Some there) = not (there == here)

-- the first site may link the second by the log: nothing is logged at either, and each is the primary of a line of its own
abbrev pub can_link : (here there : Option ℕ) → (first second : Option SiteFacts) → Bool
can_link here there first second =
    is_unused (rvg_of first) && (on_first here (rvg_of first) && (are_two here there && (is_unused (rvg_of second) && link_count second == 0)))

abbrev pub linked_already : Option LinkFacts → Option SiteFacts → Option No
linked_already None second = None
linked_already (Some l) None = None
linked_already (Some l) (Some site) = Some (Exists site.name)

-- 2: the second site is linked already
abbrev pub ask_taken : Option Ask → (there : Option ℕ) → (first second : Option SiteFacts) → Option No
ask_taken (Some Makes) there first second = linked_already (link_towards first there) second
ask_taken other there first second = None

-- 19: the first site has all the links that it may have
abbrev pub ask_limit : Option Ask → Option SiteFacts → Option No
ask_limit (Some Makes) first = when (nat_le MOST_LINKS (link_count first)) (Limit Links MOST_LINKS)
ask_limit other first = None

-- the same number of blocks, or none in either
abbrev pub same_size : Option ℕ → Option ℕ → Bool
same_size None None = true
same_size None (Some y) = false
same_size (Some x) None = false
same_size (Some x) (Some y) = x == y

-- the blocks of the data volumes, in order
abbrev pub data_sizes : List VolumeFacts → List ℕ
data_sizes [] = []
data_sizes (v ∷ vs) = if is_data v.kind then v.blocks ∷ data_sizes vs else data_sizes vs

abbrev pub same_sizes : List ℕ → List ℕ → Bool
same_sizes [] [] = true
same_sizes [] (y ∷ ys) = false
same_sizes (x ∷ xs) [] = false
same_sizes (x ∷ xs) (y ∷ ys) = x == y && same_sizes xs ys

-- the first site has data volumes, and those of the second are as many and of the same sizes
abbrev pub volumes_agree : Option SiteFacts → Option SiteFacts → Bool
volumes_agree None second = false
volumes_agree (Some first) None = false
volumes_agree (Some first) (Some second) = is_some (slice_get (data_sizes first.volumes) 0) && same_sizes (data_sizes first.volumes) (data_sizes second.volumes)

-- the second log holds 17 blocks, or as many as the first
abbrev pub ring_fits : Option RvgFacts → Option RvgFacts → Bool
ring_fits None second = false
ring_fits (Some first) None = false
ring_fits (Some first) (Some second) = nat_le 17 second.ring || nat_le first.ring second.ring

-- 4: the volumes differ in number or size, or the second site's log is too short
abbrev pub ask_size : Option Ask → (first second : Option SiteFacts) → Option No
ask_size (Some Makes) first second = when (not (volumes_agree first second && ring_fits (rvg_of first) (rvg_of second))) Size
ask_size other first second = None
