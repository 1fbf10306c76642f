-- The events of a line where sites may be in doubt: a crash of such a site takes one of the two that it may be.
use Rattle.std.specs.Prelude.{◌≡◌, ℕ, Bool, true, false, List, [], ◌∷◌, None}
use Rattle.vx_history.specs.Doubts.{Doubted, crashed_by, happened, resolved_for}
use Rattle.vx_history.specs.World.{World, with_node}
use Rattle.vx_history.specs.declared.event.Event.{Event}

-- a world of which no site is in doubt, and of which all is known
abbrev pub sure : World → Doubted
sure w = record { world = w; after = λ s. None; strayed = false }

-- what an event begins with: where it crashes a site in doubt, that site is first one of the two
abbrev pub doubt_chosen : (taken : Bool) → Doubted → Event → Doubted
doubt_chosen taken d e = resolved_for (crashed_by e) d taken

-- what the events of a line lead to, if a site in doubt that they crash is what it may be on its disks, or is not
abbrev pub run_as : (taken : Bool) → Doubted → List Event → Doubted
run_as taken d [] = d
run_as taken d (e ∷ es) = run_as taken (happened d e taken) es

-- A site that turns out to be what it was in doubt of has the disks that it had: those that were made to fail since then are made to fail,
-- and the group is the one that they are.
abbrev pub with_disks : (taken : Bool) → (site : ℕ) → (before after : World) → World
with_disks true s w v = with_node v s (record (v.nodes s) { failing = (w.nodes s).failing; group = (w.nodes s).group })
with_disks false s w v = v

-- v with the doubts of d
pub record IsAs (d : Doubted) (v : World) (new : Doubted) : Type 0 where
  pub world : new.world ≡ v
  pub after : (s : ℕ) → new.after s ≡ d.after s
  pub strayed : new.strayed ≡ d.strayed
