-- Which notes of a site an event looks at: none, but where a group of disks gets its replicated volume group.
use Rattle.std.specs.Prelude.{◌≡◌, List, [], ◌∷◌}
use Rattle.vx_history.specs.Step.{step}
use Rattle.vx_history.specs.World.{World}
use Rattle.vx_history.specs.declared.event.Event.{Event}
use Rattle.vx_history.specs.declared.event.Event.TheVariants.{Site, Raw, Group, Volumes, Write, Read, Apply, Pump, Tick, Deliver, Connect, Cut, Pause, Resume, Wait, Link, Set, Attach, Detach, Crash, Deport, Fall, Recover, Fault}

-- what the event looks at is the same in both worlds
abbrev pub LooksSame : Event → World → World → Type 0
LooksSame (Site name disks blocks) w v = Unit {0}
LooksSame (Raw p) w v = Unit {0}
LooksSame (Group p) w v = Unit {0}
LooksSame (Volumes p log xs) w v = (v.nodes p).group ≡ (w.nodes p).group
LooksSame (Write p volume start bytes fails) w v = Unit {0}
LooksSame (Read p volume start count) w v = Unit {0}
LooksSame (Apply p count reached) w v = Unit {0}
LooksSame (Pump p q) w v = Unit {0}
LooksSame (Tick p q) w v = Unit {0}
LooksSame (Deliver number) w v = Unit {0}
LooksSame (Connect p q) w v = Unit {0}
LooksSame (Cut p q) w v = Unit {0}
LooksSame (Pause p q) w v = Unit {0}
LooksSame (Resume p q) w v = Unit {0}
LooksSame (Wait p number) w v = Unit {0}
LooksSame (Link p q sync prot part) w v = Unit {0}
LooksSame (Set p q sync prot) w v = Unit {0}
LooksSame (Attach p q) w v = Unit {0}
LooksSame (Detach p q) w v = Unit {0}
LooksSame (Crash p kept) w v = Unit {0}
LooksSame (Deport p) w v = Unit {0}
LooksSame (Fall p) w v = Unit {0}
LooksSame (Recover p fails) w v = Unit {0}
LooksSame (Fault p disk) w v = Unit {0}

-- and so for each of these events, one after another
abbrev pub AllLookSame : List Event → World → World → Type 0
AllLookSame [] w v = Unit {0}
AllLookSame (e ∷ es) w v = LooksSame e w v × AllLookSame es (step w e).world (step v e).world
