-- What the disks of a halted site may keep beside what its node says: the event that failed may be on them.
use Rattle.std.specs.Prelude.{◌≡◌, ℕ, Bool, List, [], ◌∷◌, Option, Some, None, if◌then◌else◌}
use Rattle.vx_history.specs.World.{Node, Link, World, updated}
use Rattle.vx_history.specs.Events.{crash_at, kept_of}
use Rattle.vx_history.specs.Steps.{stopped_by}
use Rattle.vx_history.specs.Step.{step}
use Rattle.vx_history.specs.declared.event.Event.{Event}
use Rattle.vx_history.specs.declared.event.Event.TheVariants.{Site, Raw, Group, Volumes, Write, Read, Apply, Pump, Tick, Deliver, Connect, Cut, Pause, Resume, Wait, Link as LinkSites, Set, Attach, Detach, Crash, Deport, Fall, Recover, Fault}

-- a site and its links as they would be, had the event that failed been done
pub record After : Type 0 where
  pub node : Node
  pub row : ℕ → Link

-- A world, and for each halted site what it may be on its disks. Where a log came up from disks of which nothing was known, the world may have strayed: what it notes
-- of the site is what was found there, and no law of what went before holds of it.
pub record Doubted : Type 0 where
  pub world : World
  pub after : ℕ → Option After
  pub strayed : Bool

-- the world with such a site and its links in place of its own
abbrev pub resolved : World → ℕ → After → World
resolved w s a = record w { nodes = updated w.nodes s a.node; links = updated w.links s a.row }

abbrev pub taken_up : World → ℕ → Option After → World
taken_up w s None = w
taken_up w s (Some a) = resolved w s a

-- An event of a site that a failing disk ended: the site is halted, and the event may be on its disks. A header that was begun counts.
abbrev pub halved : Doubted → Event → (site disk : ℕ) → Doubted
halved d e site disk =
    let done = (step d.world e).world in
    record {
      world = record (stopped_by d.world site disk) { headers = done.headers };
      after = updated d.after site (Some (record { node = (stopped_by done site disk).nodes site; row = done.links site }));
      strayed = d.strayed;
    }

-- the site is what it was before the event that failed, or behind it, and nothing of it is in doubt
abbrev pub resolved_at : Doubted → (site : ℕ) → (taken : Bool) → Doubted
resolved_at d site taken = record { world = if taken then taken_up d.world site (d.after site) else d.world; after = updated d.after site None; strayed = d.strayed }

-- a crash keeps one of the two, by what stands on the site's disks
abbrev pub crashed_as : Doubted → (site kept : ℕ) → (taken : Bool) → Doubted
crashed_as d site kept taken =
    let r = resolved_at d site taken in record r { world = crash_at r.world site (kept_of (r.world.nodes site) kept) }

-- the site that an event crashes
abbrev pub crashed_by : Event → Option ℕ
crashed_by (Site name disks blocks) = None
crashed_by (Raw p) = None
crashed_by (Group p) = None
crashed_by (Volumes p log xs) = None
crashed_by (Write p volume start bytes fails) = None
crashed_by (Read p volume start count) = None
crashed_by (Apply p count reached) = None
crashed_by (Pump p q) = None
crashed_by (Tick p q) = None
crashed_by (Deliver number) = None
crashed_by (Connect p q) = None
crashed_by (Cut p q) = None
crashed_by (Pause p q) = None
crashed_by (Resume p q) = None
crashed_by (Wait p number) = None
crashed_by (LinkSites p q sync prot part) = None
crashed_by (Set p q sync prot) = None
crashed_by (Attach p q) = None
crashed_by (Detach p q) = None
crashed_by (Crash p kept) = Some p
crashed_by (Deport p) = None
crashed_by (Fall p) = None
crashed_by (Recover p fails) = None
crashed_by (Fault p disk) = None

-- where it crashes a site, that one is first one of the two
abbrev pub resolved_for : Option ℕ → Doubted → (taken : Bool) → Doubted
resolved_for None d taken = d
resolved_for (Some site) d taken = resolved_at d site taken

-- an event that is done
abbrev pub happened : Doubted → Event → (taken : Bool) → Doubted
happened d e taken = let r = resolved_for (crashed_by e) d taken in record r { world = (step r.world e).world }

-- these events, one after another, lead from d to new
abbrev pub Runs : Doubted → List Event → Doubted → Type 0
Runs d [] new = new ≡ d
Runs d (e ∷ es) new = (taken : Bool) × Runs (happened d e taken) es new
