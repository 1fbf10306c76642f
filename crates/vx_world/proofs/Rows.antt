-- Small runs of the world, and what is said in them.
use Rattle.std.proofs.Common.{◌≡◌, ℕ, List, [], ◌∷◌, ◌++◌, refl}
use Rattle.std.specs.Prelude.{replicate, None}
use Rattle.vx_model.specs.Sites.{first_line}
use Rattle.vx_model.specs.Sizes.{is_raw_shape}
use Rattle.vx_history.specs.World.{World, empty_world}
use Rattle.vx_model.specs.declared.link.Prot.TheVariants.{Fail as FailsWhenFull}
use Rattle.vx_model.specs.declared.link.SyncMode.{SyncMode}
use Rattle.vx_model.specs.declared.link.SyncMode.TheVariants.{Off as NeverWaits, Fail as FailsIfNotLive}
use Rattle.vx_model.specs.declared.no.No.TheVariants.{Unknown, Unconfirmed, LinkDown, LogFull, Stalled, Limit, Role as WrongRole}
use Rattle.vx_model.specs.declared.no.Named.TheVariants.{Number as ByNumber}
use Rattle.vx_model.specs.declared.no.SiteName.TheVariants.{Number as SiteNumber}
use Rattle.vx_model.specs.declared.no.Counted.TheVariants.{Links}
use Rattle.vx_history.specs.declared.event.Said.{Said}
use Rattle.vx_history.specs.declared.event.Said.TheVariants.{Done, DoneAt, Got, Logged, Pending, Taken, Ignored, Recovered, Refused}
use Rattle.vx_history.specs.declared.event.LinkPart.TheVariants.{Joins, Made, Marked, Opened}
use Rattle.vx_history.specs.declared.volumes.DataVolume.{DataVolume}
use Rattle.vx_history.specs.declared.event.Event.{Event}
use Rattle.vx_history.specs.declared.event.Event.TheVariants.{Site, Raw, Group, Volumes, Write, Read, Pump, Tick, Deliver, Connect, Cut, Wait, Link, Crash, Recover, Apply}
use Rattle.vx_history.specs.Settling.{settling}
use Rattle.vx_history.specs.Step.{step, run}

-- what is said of each event in turn
abbrev sayings : World → List Event → List Said
sayings w [] = []
sayings w (e ∷ es) = (step w e).said ∷ sayings (step w e).world es

-- two sites a and b, with disks of so many blocks, and a link from a to b
abbrev linked : (blocks : ℕ) → SyncMode → List Event
linked blocks sync =
    Site (97 ∷ []) 3 blocks ∷ Raw 0 ∷ Site (98 ∷ []) 3 blocks ∷ Raw 1
    ∷ Link 0 1 sync FailsWhenFull Joins ∷ Link 0 1 sync FailsWhenFull Made ∷ Link 0 1 sync FailsWhenFull Marked ∷ Link 0 1 sync FailsWhenFull Opened ∷ Connect 0 1 ∷ []

abbrev put_one : ℕ → ℕ → Event
put_one block byte = Write 0 0 block (replicate 512 byte) None

-- a write that fails where its link is not live
confirmed_row : sayings (run empty_world (linked 64 FailsIfNotLive))
    (put_one 0 17 ∷ Wait 0 1 ∷ Pump 0 1 ∷ Deliver 2 ∷ Deliver 3 ∷ Wait 0 1 ∷ put_one 1 34 ∷ Cut 0 1 ∷ Wait 0 2 ∷ put_one 2 51 ∷ Wait 0 3 ∷ [])
    ≡ Logged 1 ∷ Pending 1 ∷ Done ∷ Taken ∷ Taken ∷ DoneAt 1 ∷ Logged 2 ∷ Done ∷ Refused (Unconfirmed 2) ∷ Refused (LinkDown (SiteNumber 1)) ∷ Refused
    (Unknown (ByNumber 3)) ∷ []
unfolding is_raw_shape
confirmed_row = refl

-- a receiver that crashes with a record in memory
restarted_row : sayings (run empty_world (linked 64 FailsIfNotLive))
    (put_one 0 17 ∷ Wait 0 1 ∷ Pump 0 1 ∷ Deliver 2 ∷ Crash 1 0 ∷ Recover 1 None ∷ Deliver 4 ∷ Deliver 3 ∷ Wait 0 1 ∷ [])
    ≡ Logged 1 ∷ Pending 1 ∷ Done ∷ Taken ∷ Done ∷ Recovered 0 ∷ Taken ∷ Ignored ∷ Pending 1 ∷ []
unfolding is_raw_shape
restarted_row = refl

-- a full log: a live link stalls the write, and one that is cut fails it
abbrev filled : List Event
filled = put_one 0 1 ∷ put_one 1 2 ∷ Write 0 0 2 (replicate 1024 3) None ∷ []

stalled_row : sayings (run empty_world (linked 10 NeverWaits)) (filled ++ put_one 4 4 ∷ [])
    ≡ DoneAt 1 ∷ DoneAt 2 ∷ DoneAt 3 ∷ Refused (Stalled (SiteNumber 1)) ∷ []
unfolding is_raw_shape
stalled_row = refl

full_row : sayings (run empty_world (linked 10 NeverWaits)) (filled ++ Cut 0 1 ∷ put_one 4 4 ∷ [])
    ≡ DoneAt 1 ∷ DoneAt 2 ∷ DoneAt 3 ∷ Done ∷ Refused (LogFull (SiteNumber 1)) ∷ []
unfolding is_raw_shape
full_row = refl

-- a whole settling by hand: the write of two blocks goes in two packets; then the stalled write goes, and a crash of the origin keeps all
settled_row : sayings (run empty_world (linked 10 NeverWaits ++ filled))
    (Connect 0 1 ∷ Deliver 2 ∷ Pump 0 1 ∷ Deliver 3 ∷ Deliver 4 ∷ Deliver 5 ∷ Deliver 6 ∷ Deliver 7 ∷ Deliver 8 ∷ Deliver 9
    ∷ Apply 1 3 0 ∷ Deliver 10 ∷ put_one 4 4 ∷ Crash 0 0 ∷ Recover 0 None ∷ Deliver 11 ∷ [])
    ≡ Done ∷ Taken ∷ Done ∷ Taken ∷ Taken ∷ Taken ∷ Taken ∷ Taken ∷ Taken ∷ Taken ∷ DoneAt 3 ∷ Taken ∷ DoneAt 4 ∷ Done ∷ Recovered 4 ∷ Refused
    (Unknown (ByNumber 11)) ∷ []
unfolding is_raw_shape
settled_row = refl

-- updates out of order and repeated
order_row : sayings (run empty_world (linked 64 NeverWaits)) (put_one 0 17 ∷ put_one 1 34 ∷ Pump 0 1 ∷ Deliver 3 ∷ Deliver 2 ∷ Deliver 2 ∷ Deliver 3 ∷ Deliver 9 ∷ [])
    ≡ DoneAt 1 ∷ DoneAt 2 ∷ Done ∷ Ignored ∷ Taken ∷ Ignored ∷ Taken ∷ Refused (Unknown (ByNumber 9)) ∷ []
unfolding is_raw_shape
order_row = refl

-- a fifth link
abbrev site_of : ℕ → ℕ → List Event
site_of name number = Site (name ∷ []) 3 64 ∷ Raw number ∷ []

abbrev link_to : ℕ → List Event
link_to s = Link 0 s NeverWaits FailsWhenFull Joins ∷ Link 0 s NeverWaits FailsWhenFull Made ∷ Link 0 s NeverWaits FailsWhenFull Marked ∷ Link 0 s NeverWaits FailsWhenFull Opened ∷ []

links_row : sayings (run empty_world (site_of 97 0 ++ site_of 98 1 ++ site_of 99 2 ++ site_of 100 3 ++ site_of 101 4 ++ site_of 102 5 ++ link_to 1 ++ link_to 2 ++ link_to 3 ++ link_to 4)) (Link 0 5 NeverWaits FailsWhenFull Joins ∷ [])
    ≡ Refused (Limit Links 4) ∷ []
unfolding is_raw_shape
links_row = refl

-- a site that joined another's line stood on both
stood_row : ((run empty_world (linked 64 NeverWaits)).nodes 1).stood ≡ first_line 1 ∷ first_line 0 ∷ []
unfolding is_raw_shape
stood_row = refl

-- settling brings three writes, the last of two blocks, to the receiver, in packets 2 to 10
abbrev before_settling : World
before_settling = run empty_world (linked 10 NeverWaits ++ filled)

settling_row : settling before_settling 0 1
    ≡ Connect 0 1 ∷ Deliver 2
    ∷ Tick 0 1 ∷ Pump 0 1 ∷ Deliver 3 ∷ Deliver 4 ∷ Deliver 5 ∷ Deliver 6 ∷ Deliver 7 ∷ Deliver 8 ∷ Deliver 9 ∷ Apply 1 3 0 ∷ Deliver 10 ∷ []
unfolding is_raw_shape
settling_row = refl

settled_link : ((run before_settling (settling before_settling 0 1)).links 0 1).stored ≡ 3
unfolding is_raw_shape
settled_link = refl

-- a group of two disks that gets a replicated volume group, with a log in a volume of 64 blocks and one data volume
abbrev data_volume : DataVolume
data_volume = record { place = 2; name = 118 ∷ []; blocks = 256 }

abbrev replicated : List Event
replicated = Site (97 ∷ []) 2 1024 ∷ Group 0 ∷ Volumes 0 64 (data_volume ∷ []) ∷ []

replicated_row : sayings empty_world (replicated ++ put_one 0 17 ∷ Crash 0 0 ∷ Recover 0 None ∷ Read 0 0 0 1 ∷ Group 0 ∷ Volumes 0 64 (data_volume ∷ []) ∷ [])
    ≡ Done ∷ Done ∷ Done ∷ DoneAt 1 ∷ Done ∷ Recovered 1 ∷ Got (replicate 512 17) ∷ Refused WrongRole ∷ Refused WrongRole ∷ []
replicated_row = refl

replicated_session : ((run empty_world (replicated ++ put_one 0 17 ∷ Crash 0 0 ∷ Recover 0 None ∷ [])).nodes 0).session ≡ 2
replicated_session = refl

-- a recovery that finds what a line had begun to make: the group comes up and gets it, and then its log comes up
gained_row : sayings empty_world (Site (97 ∷ []) 2 1024 ∷ Group 0 ∷ Crash 0 0 ∷ Group 0 ∷ Volumes 0 64 (data_volume ∷ []) ∷ Crash 0 0 ∷ Recover 0 None ∷ put_one 0 17 ∷ [])
    ≡ Done ∷ Done ∷ Done ∷ Done ∷ Done ∷ Done ∷ Recovered 0 ∷ DoneAt 1 ∷ []
gained_row = refl
