-- The disks below a replicated volume group that crash: the site, the note, and what is told of the disks.
use Rattle.std.proofs.Common.{ap, subst, ◌≡◌}
use Rattle.vx_diskset.specs.Aboves.{below_site}
use Rattle.vx_diskset.specs.Stands.{CutOver}
use Rattle.vx_grouped.specs.declared.group_site.GroupSite.TheVariants.{Deported, Down, Gone}
use Rattle.vx_diskset.proofs.OverDisks.{away_up, fell_up, gone_up}
use Rattle.vx_diskset.proofs.OverFalls.{crash_asked, crash_fallen, crash_named, crash_noted, crash_stopped, crash_told, fell_of, still_fallen, still_named, still_noted, still_stopped, still_told}
use Rattle.vx_disk.specs.Racks.{Stopped}
use Rattle.vx_grouped.specs.GroupSites.{idle_disks, laid_disks}
use Rattle.vx_diskset.proofs.OverDowns.{origin_crashed, origin_held, receiver_crashed, receiver_cut}
use Rattle.vx_untold.specs.Shades.{shade_lawful, shade_rack}
use Rattle.vx_group.specs.Settles.{LacksCommit}
use Rattle.vx_logimport.specs.declared.rested.Rested.{Rested}
use Rattle.std.specs.Prelude.{Some}
use Rattle.vx_diskset.proofs.over_set.OverSet.crash.Goals as goal

pub returns-in-Origin-clause-noted : goal.returns-in-Origin-clause-noted
returns-in-Origin-clause-noted g c = crash_noted c.args.pick c.in-Origin.founded.laid c.fell_idle-idle.result (fell_of c.args.pick c.in-Origin.founded.laid c.apart-laid.result.0 c.fell_idle-idle.result c.apart-laid.ensures.laid c.fell_idle-idle.ensures) (below_site c.args.self.site) (ap (λ s. below_site s) c.in-Origin.is)

pub returns-in-Origin-clause-fallen : goal.returns-in-Origin-clause-fallen
returns-in-Origin-clause-fallen g c = crash_fallen c.args.pick c.in-Origin.founded.laid c.fell_idle-idle.result (fell_of c.args.pick c.in-Origin.founded.laid c.apart-laid.result.0 c.fell_idle-idle.result c.apart-laid.ensures.laid c.fell_idle-idle.ensures) (below_site c.args.self.site) (ap (λ s. below_site s) c.in-Origin.is)

pub returns-in-Origin-clause-stopped : goal.returns-in-Origin-clause-stopped
returns-in-Origin-clause-stopped g c = crash_stopped c.args.pick c.in-Origin.founded.laid c.fell_idle-idle.result (fell_of c.args.pick c.in-Origin.founded.laid c.apart-laid.result.0 c.fell_idle-idle.result c.apart-laid.ensures.laid c.fell_idle-idle.ensures) (below_site c.args.self.site) (ap (λ s. below_site s) c.in-Origin.is)

pub returns-in-Origin-clause-told : goal.returns-in-Origin-clause-told
returns-in-Origin-clause-told g c = crash_told c.args.pick c.in-Origin.founded.laid c.fell_idle-idle.result (fell_of c.args.pick c.in-Origin.founded.laid c.apart-laid.result.0 c.fell_idle-idle.result c.apart-laid.ensures.laid c.fell_idle-idle.ensures) (below_site c.args.self.site) (ap (λ s. below_site s) c.in-Origin.is)

pub returns-in-Origin-clause-asked : goal.returns-in-Origin-clause-asked
returns-in-Origin-clause-asked g c = λ beside n stands up. crash_asked c.args.pick c.in-Origin.founded.laid c.fell_idle-idle.result (fell_of c.args.pick c.in-Origin.founded.laid c.apart-laid.result.0 c.fell_idle-idle.result c.apart-laid.ensures.laid c.fell_idle-idle.ensures) (below_site c.args.self.site) (ap (λ s. below_site s) c.in-Origin.is)

pub returns-in-Receiver-clause-noted : goal.returns-in-Receiver-clause-noted
returns-in-Receiver-clause-noted g c = crash_noted c.args.pick c.in-Receiver.founded.laid c.fell_idle-idle-in-Receiver.result (fell_of c.args.pick c.in-Receiver.founded.laid c.apart-laid-in-Receiver.result.0 c.fell_idle-idle-in-Receiver.result c.apart-laid-in-Receiver.ensures.laid c.fell_idle-idle-in-Receiver.ensures) (below_site c.args.self.site) (ap (λ s. below_site s) c.in-Receiver.is)

pub returns-in-Receiver-clause-fallen : goal.returns-in-Receiver-clause-fallen
returns-in-Receiver-clause-fallen g c = crash_fallen c.args.pick c.in-Receiver.founded.laid c.fell_idle-idle-in-Receiver.result (fell_of c.args.pick c.in-Receiver.founded.laid c.apart-laid-in-Receiver.result.0 c.fell_idle-idle-in-Receiver.result c.apart-laid-in-Receiver.ensures.laid c.fell_idle-idle-in-Receiver.ensures) (below_site c.args.self.site) (ap (λ s. below_site s) c.in-Receiver.is)

pub returns-in-Receiver-clause-stopped : goal.returns-in-Receiver-clause-stopped
returns-in-Receiver-clause-stopped g c = crash_stopped c.args.pick c.in-Receiver.founded.laid c.fell_idle-idle-in-Receiver.result (fell_of c.args.pick c.in-Receiver.founded.laid c.apart-laid-in-Receiver.result.0 c.fell_idle-idle-in-Receiver.result c.apart-laid-in-Receiver.ensures.laid c.fell_idle-idle-in-Receiver.ensures) (below_site c.args.self.site) (ap (λ s. below_site s) c.in-Receiver.is)

pub returns-in-Receiver-clause-told : goal.returns-in-Receiver-clause-told
returns-in-Receiver-clause-told g c = crash_told c.args.pick c.in-Receiver.founded.laid c.fell_idle-idle-in-Receiver.result (fell_of c.args.pick c.in-Receiver.founded.laid c.apart-laid-in-Receiver.result.0 c.fell_idle-idle-in-Receiver.result c.apart-laid-in-Receiver.ensures.laid c.fell_idle-idle-in-Receiver.ensures) (below_site c.args.self.site) (ap (λ s. below_site s) c.in-Receiver.is)

pub returns-in-Receiver-clause-asked : goal.returns-in-Receiver-clause-asked
returns-in-Receiver-clause-asked g c = λ beside n stands up. crash_asked c.args.pick c.in-Receiver.founded.laid c.fell_idle-idle-in-Receiver.result (fell_of c.args.pick c.in-Receiver.founded.laid c.apart-laid-in-Receiver.result.0 c.fell_idle-idle-in-Receiver.result c.apart-laid-in-Receiver.ensures.laid c.fell_idle-idle-in-Receiver.ensures) (below_site c.args.self.site) (ap (λ s. below_site s) c.in-Receiver.is)

pub returns-in-Deported-clause-noted : goal.returns-in-Deported-clause-noted
returns-in-Deported-clause-noted g c = still_noted (below_site c.args.self.site) (Deported c.in-Deported.idle) (ap (λ s. below_site s) c.in-Deported.is) (λ n note up. up)

pub returns-in-Deported-clause-fallen : goal.returns-in-Deported-clause-fallen
returns-in-Deported-clause-fallen g c = still_fallen (below_site c.args.self.site) (Deported c.in-Deported.idle) (ap (λ s. below_site s) c.in-Deported.is) (λ n note cut. cut)

pub returns-in-Deported-clause-stopped : goal.returns-in-Deported-clause-stopped
returns-in-Deported-clause-stopped g c = still_stopped (below_site c.args.self.site) (Deported c.in-Deported.idle) (ap (λ s. below_site s) c.in-Deported.is) c.args.pick (λ l is. cc)

pub returns-in-Deported-clause-told : goal.returns-in-Deported-clause-told
returns-in-Deported-clause-told g c = still_told (below_site c.args.self.site) (Deported c.in-Deported.idle) (ap (λ s. below_site s) c.in-Deported.is)

pub returns-in-Deported-clause-asked : goal.returns-in-Deported-clause-asked
returns-in-Deported-clause-asked g c = λ beside n stands up. absurd (away_up beside n c.args.self.site c.in-Deported.idle c.in-Deported.is stands.1 up)

pub returns-in-Down-clause-noted : goal.returns-in-Down-clause-noted
returns-in-Down-clause-noted g c = still_noted (below_site c.args.self.site) (Down c.in-Down.idle) (ap (λ s. below_site s) c.in-Down.is) (λ n note up. up)

pub returns-in-Down-clause-fallen : goal.returns-in-Down-clause-fallen
returns-in-Down-clause-fallen g c = still_fallen (below_site c.args.self.site) (Down c.in-Down.idle) (ap (λ s. below_site s) c.in-Down.is) (λ n note cut. cut)

pub returns-in-Down-clause-stopped : goal.returns-in-Down-clause-stopped
returns-in-Down-clause-stopped g c = still_stopped (below_site c.args.self.site) (Down c.in-Down.idle) (ap (λ s. below_site s) c.in-Down.is) c.args.pick (λ l is. cc)

pub returns-in-Down-clause-told : goal.returns-in-Down-clause-told
returns-in-Down-clause-told g c = still_told (below_site c.args.self.site) (Down c.in-Down.idle) (ap (λ s. below_site s) c.in-Down.is)

pub returns-in-Down-clause-asked : goal.returns-in-Down-clause-asked
returns-in-Down-clause-asked g c = λ beside n stands up. absurd (fell_up beside n c.args.self.site c.in-Down.idle c.in-Down.is stands.1 up)

pub returns-in-Gone-clause-noted : goal.returns-in-Gone-clause-noted
returns-in-Gone-clause-noted g c = still_noted (below_site c.args.self.site) Gone (ap (λ s. below_site s) c.in-Gone.is) (λ n note up. up)

pub returns-in-Gone-clause-fallen : goal.returns-in-Gone-clause-fallen
returns-in-Gone-clause-fallen g c = still_fallen (below_site c.args.self.site) Gone (ap (λ s. below_site s) c.in-Gone.is) (λ n note cut. cut)

pub returns-in-Gone-clause-stopped : goal.returns-in-Gone-clause-stopped
returns-in-Gone-clause-stopped g c = still_stopped (below_site c.args.self.site) Gone (ap (λ s. below_site s) c.in-Gone.is) c.args.pick (λ l is. cc)

pub returns-in-Gone-clause-told : goal.returns-in-Gone-clause-told
returns-in-Gone-clause-told g c = still_told (below_site c.args.self.site) Gone (ap (λ s. below_site s) c.in-Gone.is)

pub returns-in-Gone-clause-asked : goal.returns-in-Gone-clause-asked
returns-in-Gone-clause-asked g c = λ beside n stands up. absurd (gone_up beside n c.args.self.site c.in-Gone.is stands.1)

pub returns-in-Deported-clause-crashed : goal.returns-in-Deported-clause-crashed
returns-in-Deported-clause-crashed g c = λ beside n stands up. absurd (away_up beside n c.args.self.site c.in-Deported.idle c.in-Deported.is stands.1 up)

pub returns-in-Deported-clause-held : goal.returns-in-Deported-clause-held
returns-in-Deported-clause-held g c = λ beside n cut. absurd (subst (λ s. CutOver beside n s) c.in-Deported.is cut.1)

pub returns-in-Down-clause-crashed : goal.returns-in-Down-clause-crashed
returns-in-Down-clause-crashed g c = λ beside n stands up. absurd (fell_up beside n c.args.self.site c.in-Down.idle c.in-Down.is stands.1 up)

pub returns-in-Down-clause-held : goal.returns-in-Down-clause-held
returns-in-Down-clause-held g c = λ beside n cut. absurd (subst (λ s. CutOver beside n s) c.in-Down.is cut.1)

pub returns-in-Gone-clause-crashed : goal.returns-in-Gone-clause-crashed
returns-in-Gone-clause-crashed g c = λ beside n stands up. absurd (gone_up beside n c.args.self.site c.in-Gone.is stands.1)

pub returns-in-Gone-clause-held : goal.returns-in-Gone-clause-held
returns-in-Gone-clause-held g c = λ beside n cut. absurd (subst (λ s. CutOver beside n s) c.in-Gone.is cut.1)

pub returns-in-Origin-clause-crashed : goal.returns-in-Origin-clause-crashed
returns-in-Origin-clause-crashed g c = λ beside n stands up.
    let lawful = (g.met.R.Shelf g.world.𝓛 g.world.𝓜 g.world.𝓡 ((λ s x. x), (λ x. x), (λ x. x), λ x. x)).lawful in
    let is_rack = (g.met.R.Rack g.world.𝓛 g.world.𝓜 g.world.𝓡 ((λ s x. x), (λ x. x), (λ x. x), λ x. x)).rack in
    origin_crashed n c.args.self c.fell_idle-idle.result (shade_lawful g.R.Shelf.meaning lawful) (shade_rack g.R.Shelf.meaning is_rack c.fell_idle-idle.result.rack) c.in-Origin.founded c.in-Origin.is
    (subst (λ l. Stopped (laid_disks l) (idle_disks c.fell_idle-idle.result)) c.apart-laid.ensures.laid c.fell_idle-idle.ensures.stopped)
    (subst (λ l. (r : Rested) → c.fell_idle-idle.result.rested ≡ Some r → LacksCommit l.core.inner → ⊥) c.apart-laid.ensures.laid c.fell_idle-idle.ensures.lacking) stands

pub returns-in-Origin-clause-held : goal.returns-in-Origin-clause-held
returns-in-Origin-clause-held g c = λ beside n cut.
    let lawful = (g.met.R.Shelf g.world.𝓛 g.world.𝓜 g.world.𝓡 ((λ s x. x), (λ x. x), (λ x. x), λ x. x)).lawful in
    let is_rack = (g.met.R.Rack g.world.𝓛 g.world.𝓜 g.world.𝓡 ((λ s x. x), (λ x. x), (λ x. x), λ x. x)).rack in
    origin_held n c.args.self c.fell_idle-idle.result (shade_lawful g.R.Shelf.meaning lawful) (shade_rack g.R.Shelf.meaning is_rack c.fell_idle-idle.result.rack) c.in-Origin.founded c.in-Origin.is
    (subst (λ l. Stopped (laid_disks l) (idle_disks c.fell_idle-idle.result)) c.apart-laid.ensures.laid c.fell_idle-idle.ensures.stopped)
    (subst (λ l. (r : Rested) → c.fell_idle-idle.result.rested ≡ Some r → LacksCommit l.core.inner → ⊥) c.apart-laid.ensures.laid c.fell_idle-idle.ensures.lacking) cut

pub returns-in-Receiver-clause-crashed : goal.returns-in-Receiver-clause-crashed
returns-in-Receiver-clause-crashed g c = λ beside n stands up.
    let lawful = (g.met.R.Shelf g.world.𝓛 g.world.𝓜 g.world.𝓡 ((λ s x. x), (λ x. x), (λ x. x), λ x. x)).lawful in
    let is_rack = (g.met.R.Rack g.world.𝓛 g.world.𝓜 g.world.𝓡 ((λ s x. x), (λ x. x), (λ x. x), λ x. x)).rack in
    receiver_crashed n c.args.self c.fell_idle-idle-in-Receiver.result (shade_lawful g.R.Shelf.meaning lawful) (shade_rack g.R.Shelf.meaning is_rack c.fell_idle-idle-in-Receiver.result.rack) c.in-Receiver.founded c.in-Receiver.is
    (subst (λ l. Stopped (laid_disks l) (idle_disks c.fell_idle-idle-in-Receiver.result)) c.apart-laid-in-Receiver.ensures.laid c.fell_idle-idle-in-Receiver.ensures.stopped)
    (subst (λ l. (r : Rested) → c.fell_idle-idle-in-Receiver.result.rested ≡ Some r → LacksCommit l.core.inner → ⊥) c.apart-laid-in-Receiver.ensures.laid c.fell_idle-idle-in-Receiver.ensures.lacking) stands

pub returns-in-Receiver-clause-held : goal.returns-in-Receiver-clause-held
returns-in-Receiver-clause-held g c = λ beside n cut.
    let lawful = (g.met.R.Shelf g.world.𝓛 g.world.𝓜 g.world.𝓡 ((λ s x. x), (λ x. x), (λ x. x), λ x. x)).lawful in
    let is_rack = (g.met.R.Rack g.world.𝓛 g.world.𝓜 g.world.𝓡 ((λ s x. x), (λ x. x), (λ x. x), λ x. x)).rack in
    receiver_cut n c.args.self c.fell_idle-idle-in-Receiver.result (shade_lawful g.R.Shelf.meaning lawful) (shade_rack g.R.Shelf.meaning is_rack c.fell_idle-idle-in-Receiver.result.rack) c.in-Receiver.founded c.in-Receiver.is
    (subst (λ l. Stopped (laid_disks l) (idle_disks c.fell_idle-idle-in-Receiver.result)) c.apart-laid-in-Receiver.ensures.laid c.fell_idle-idle-in-Receiver.ensures.stopped)
    (subst (λ l. (r : Rested) → c.fell_idle-idle-in-Receiver.result.rested ≡ Some r → LacksCommit l.core.inner → ⊥) c.apart-laid-in-Receiver.ensures.laid c.fell_idle-idle-in-Receiver.ensures.lacking) cut

pub returns-in-Origin-clause-named : goal.returns-in-Origin-clause-named
returns-in-Origin-clause-named g c = crash_named c.args.pick c.in-Origin.founded.laid c.fell_idle-idle.result (fell_of c.args.pick c.in-Origin.founded.laid c.apart-laid.result.0 c.fell_idle-idle.result c.apart-laid.ensures.laid c.fell_idle-idle.ensures) (below_site c.args.self.site) (ap (λ s. below_site s) c.in-Origin.is)

pub returns-in-Receiver-clause-named : goal.returns-in-Receiver-clause-named
returns-in-Receiver-clause-named g c = crash_named c.args.pick c.in-Receiver.founded.laid c.fell_idle-idle-in-Receiver.result (fell_of c.args.pick c.in-Receiver.founded.laid c.apart-laid-in-Receiver.result.0 c.fell_idle-idle-in-Receiver.result c.apart-laid-in-Receiver.ensures.laid c.fell_idle-idle-in-Receiver.ensures) (below_site c.args.self.site) (ap (λ s. below_site s) c.in-Receiver.is)

pub returns-in-Deported-clause-named : goal.returns-in-Deported-clause-named
returns-in-Deported-clause-named g c = still_named (below_site c.args.self.site) (Deported c.in-Deported.idle) (ap (λ s. below_site s) c.in-Deported.is) (λ n note up. up) (λ n note cut. cut)

pub returns-in-Down-clause-named : goal.returns-in-Down-clause-named
returns-in-Down-clause-named g c = still_named (below_site c.args.self.site) (Down c.in-Down.idle) (ap (λ s. below_site s) c.in-Down.is) (λ n note up. up) (λ n note cut. cut)

pub returns-in-Gone-clause-named : goal.returns-in-Gone-clause-named
returns-in-Gone-clause-named g c = still_named (below_site c.args.self.site) Gone (ap (λ s. below_site s) c.in-Gone.is) (λ n note up. up) (λ n note cut. cut)
