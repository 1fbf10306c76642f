-- `read_line`: what it hands on, and where memory is short.
use Rattle.vx_yard.proofs.NamedSite.{unbegun_for}
use Rattle.vx_group_lines.proofs.WorkLines.{filled_is, filled_length, reads_may, reads_none}
use Rattle.vx_above.proofs.Works.{beside_short}
use Rattle.vx_group_lines.proofs.blocks.read_line.Goals as goal

pub read_plain-requires-clause-free : goal.read_plain-requires-clause-free
read_plain-requires-clause-free g c = λ κs within. (c.requires.free.0, c.args.count, c.requires.free.1, c.requires.free.2)

pub returns-in-Ok-clause-leads : goal.returns-in-Ok-clause-leads
returns-in-Ok-clause-leads g c = λ d line stands is free group.
    let may = reads_may c.args.yard.now c.args.name.now c.args.volume.now c.args.start c.args.count c.requires.free in
    c.read_plain.ensures.leads d line c.args.count stands is
    (record { some = may.some; few = may.few; size = filled_length c.args.count 0 _ (filled_is c.args.count 0 _ may.few c.in-Ok.ensures) }) free group

pub returns-in-Ok-clause-asked : goal.returns-in-Ok-clause-asked
returns-in-Ok-clause-asked g c = λ d line stands is free group.
    let may = reads_may c.args.yard.now c.args.name.now c.args.volume.now c.args.start c.args.count c.requires.free in
    c.read_plain.ensures.asked d line c.args.count stands is
    (record { some = may.some; few = may.few; size = filled_length c.args.count 0 _ (filled_is c.args.count 0 _ may.few c.in-Ok.ensures) }) free group

pub returns-in-Err-clause-leads : goal.returns-in-Err-clause-leads
returns-in-Err-clause-leads g c = λ d line stands is free group. unbegun_for d c.args.yard.now stands

pub returns-in-Err-clause-asked : goal.returns-in-Err-clause-asked
returns-in-Err-clause-asked g c = λ d line stands is free group. reads_none c.args.yard.now c.args.name.now c.args.volume.now c.args.start c.args.count d line stands is free

pub returns-in-Ok-clause-above : goal.returns-in-Ok-clause-above
returns-in-Ok-clause-above g c = λ d line stands is free over plain.
    let may = reads_may c.args.yard.now c.args.name.now c.args.volume.now c.args.start c.args.count c.requires.free in
    c.read_plain.ensures.above d line c.args.count stands is
    (record { some = may.some; few = may.few; size = filled_length c.args.count 0 _ (filled_is c.args.count 0 _ may.few c.in-Ok.ensures) }) free over plain

pub returns-in-Err-clause-above : goal.returns-in-Err-clause-above
returns-in-Err-clause-above g c = λ d line stands is free over plain. beside_short d line c.args.yard.now c.args.yard.now (unbegun_for d c.args.yard.now stands)
