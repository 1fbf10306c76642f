-- `take`: its result; what `put` and `payload` ask.
use Rattle.std.proofs.Common.{arith, ◌≡◌, ◌∙◌, ◌-◌, ◌+◌, ap, Option, Some, length, take, drop}
use Rattle.std.proofs.lemmas.List.{length-take, length-drop}
use Rattle.std.proofs.lemmas.List.{length-set}
use Rattle.vx_packet.specs.Assemblies.{HeldParts, Assembled, key_in_part, parts_before}
use Rattle.vx_packet.specs.Gathering.{kept_payload}
use Rattle.vx_packet.specs.Packets.{payload_in}
use Rattle.vx_packet.specs.declared.key.Key.{Key}
use Rattle.vx_packet.specs.declared.part.Part.{Part}
use Rattle.vx_packet.proofs.AssemblyLemmas.{begun, slice-payload, after-put, kept-after, whole-read, bad-after}
use Rattle.vx_packet.proofs.KeyLemmas.{HasParts-held, held_of-parts}
use Rattle.vx_packet.proofs.assembly.Assembly.take.Goals as goal

-- the place is begun with the part's key
place : (old new : Assembled) (p : Part) (key : Key) (held : Option HeldParts) → held ≡ new.held → new.held ≡ Some (record { key = key; parts = parts_before old.held key }) → key ≡ key_in_part p → held ≡ Some (begun old.held p)
place old new p key held view is same = view ∙ is ∙ ap (λ (q : Key). Some (record { key = q; parts = parts_before old.held q })) same

pub put-requires-clause-part : goal.put-requires-clause-part
put-requires-clause-part c =
    let p : Part = c.args.part.now in
    let is = place c.args.self.now c.begin.new.self p c.of-key.result _ (ap (λ (a : Assembled). a.held) c.self.view_is) c.begin.ensures c.of-key.ensures in
    let count = HasParts-held c.self.inside.key c.self.inside.parts (begun c.args.self.now.held p) is c.self.invariant.0 in
    omega (arith, count, ap length (held_of-parts c.self.inside.key c.self.inside.parts (begun c.args.self.now.held p) is), c.requires.can.part)

pub put-requires-clause-whole : goal.put-requires-clause-whole
put-requires-clause-whole c h =
    let p : Part = c.args.part.now in
    let is = place c.args.self.now c.begin.new.self p c.of-key.result _ (ap (λ (a : Assembled). a.held) c.self.view_is) c.begin.ensures c.of-key.ensures in
    let count = HasParts-held c.self.inside.key c.self.inside.parts (begun c.args.self.now.held p) is c.self.invariant.0 in
    let full : p.length ≡ 1024 = c.requires.can.length.whole (omega (arith, count, h, ap length (held_of-parts c.self.inside.key c.self.inside.parts (begun c.args.self.now.held p) is))) in
    omega (arith, length-take (p.start + p.length - p.start) (drop p.start c.args.bytes.now), length-drop p.start c.args.bytes.now, c.requires.whole, c.requires.start)

pub payload-requires : goal.payload-requires
payload-requires c =
    let p : Part = c.args.part.now in
    let is = place c.args.self.now c.begin.new.self p c.of-key.result _ (ap (λ (a : Assembled). a.held) c.self.view_is) c.begin.ensures c.of-key.ensures in
    let count = HasParts-held c.self.inside.key c.self.inside.parts (begun c.args.self.now.held p) is c.self.invariant.0 in
    omega (arith, count, ap length (held_of-parts c.self.inside.key c.self.inside.parts (begun c.args.self.now.held p) is), c.requires.can.part, ap length c.put.ensures ∙ length-set c.self.inside.parts p.part (Some (kept_payload p.part (take (p.start + p.length - p.start) (drop p.start c.args.bytes.now)))))

pub returns-in-None : goal.returns-in-None
returns-in-None c =
    let p : Part = c.args.part.now in
    let is = place c.args.self.now c.begin.new.self p c.of-key.result _ (ap (λ (a : Assembled). a.held) c.self.view_is) c.begin.ensures c.of-key.ensures in
    let same = after-put c.args.self.now.held p c.self.inside.key c.self.inside.parts c.put.new.self _ (payload_in p c.args.bytes.now) is (slice-payload p c.args.bytes.now) c.put.ensures in
    kept-after c.args.self.now.held p c.self.inside.key c.self.inside.parts c.put.new.self (payload_in p c.args.bytes.now) is same c.in-None.ensures

pub returns-then-reads : goal.returns-then-reads
returns-then-reads c =
    let p : Part = c.args.part.now in
    let is = place c.args.self.now c.begin.new.self p c.of-key.result _ (ap (λ (a : Assembled). a.held) c.self.view_is) c.begin.ensures c.of-key.ensures in
    let same = after-put c.args.self.now.held p c.self.inside.key c.self.inside.parts c.put.new.self _ (payload_in p c.args.bytes.now) is (slice-payload p c.args.bytes.now) c.put.ensures in
    whole-read c.args.self.now.held p c.put.new.self (payload_in p c.args.bytes.now) c.in-Some.payload.now c.of-key.result same c.in-Some.ensures.0 c.in-Some.ensures.1 c.of-key.ensures c.if-reads.ensures

pub returns-else-reads : goal.returns-else-reads
returns-else-reads c =
    let p : Part = c.args.part.now in
    let is = place c.args.self.now c.begin.new.self p c.of-key.result _ (ap (λ (a : Assembled). a.held) c.self.view_is) c.begin.ensures c.of-key.ensures in
    let same = after-put c.args.self.now.held p c.self.inside.key c.self.inside.parts c.put.new.self _ (payload_in p c.args.bytes.now) is (slice-payload p c.args.bytes.now) c.put.ensures in
    bad-after c.args.self.now.held p c.put.new.self (payload_in p c.args.bytes.now) c.in-Some.payload.now same c.in-Some.ensures.0 c.in-Some.ensures.1 c.if-reads.ensures
