-- A site at which writes arise, as it comes up: it greets no one.
use Rattle.std.proofs.Common.{◌≡◌, ◌∙◌, ℕ, ◌+◌, ◌<◌, List, [], ◌++◌, length, Bool, true, ap}
use Rattle.std.specs.Prelude.{None, if◌then◌else◌}
use Rattle.std.proofs.lemmas.List.{append-nil}
use Rattle.vx_model.specs.Sites.{is_origin}
use Rattle.vx_model.specs.declared.limits.TheConstants.{MOST_NUMBER}
use Rattle.vx_model.specs.declared.site.SiteState.TheVariants.{Down}
use Rattle.vx_history.specs.Doubts.{Doubted, happened}
use Rattle.vx_history.specs.Events.{come_back, recovery_greeting, restarted_link}
use Rattle.vx_history.specs.LinkForms.{plain_receiver}
use Rattle.vx_history.specs.Receiving.{received_step}
use Rattle.vx_history.specs.Sends.{greeting}
use Rattle.vx_history.specs.Steps.{recovered}
use Rattle.vx_history.specs.World.{Node, Packet}
use Rattle.vx_history.specs.declared.event.Event.TheVariants.{Recover}
use Rattle.vx_history.specs.declared.receiver.REvent.TheVariants.{Restart}
use Rattle.vx_history.specs.declared.receiver.RState.{RState}
use Rattle.vx_events.specs.Effects.{EffectAt}
use Rattle.vx_effects.proofs.Rises.{recover_effect}

pub origin_back : (n : Node) → is_origin n.role ≡ true → come_back n ≡ recovered n
origin_back n e =
    let r : RState = (received_step (plain_receiver n) (Restart (length n.log) (n.session + 1))).state in
    ap (λ (b : Bool). let m : Node = (if b then recovered n else record (recovered n) { session = r.session; mark = r.mark }) in m) e

origin_silent : (s : ℕ) (n : Node) → is_origin n.role ≡ true → recovery_greeting s n ≡ []
origin_silent s n e = ap (λ (b : Bool). let ps : List Packet = (if b then [] else greeting s n.other n) in ps) e

pub origin_effect : (d : Doubted) (s : ℕ) (taken : Bool) → s < d.world.sites → (d.world.nodes s).state ≡ Down → (d.world.nodes s).session < MOST_NUMBER → is_origin (d.world.nodes s).role ≡ true
    → EffectAt s d (happened d (Recover s None) taken) (recovered (d.world.nodes s)) (λ k. restarted_link (recovered (d.world.nodes s)) k (d.world.links s k)) (d.world.headers s) (d.after s)
    d.world.packets (d.world.gathering s)
origin_effect d s taken below down some origin =
    let n : Node = d.world.nodes s in
    let f = recover_effect d s taken below down some in
    let back : come_back n ≡ recovered n = origin_back n origin in
    record {
      site = f.site;
      is = record {
        node = f.is.node ∙ back;
        links = λ k. f.is.links k ∙ ap (λ (m : Node). restarted_link m k (d.world.links s k)) back;
        headers = f.is.headers;
        after = f.is.after;
      };
      sent = f.sent ∙ ap (λ (m : Node). d.world.packets ++ recovery_greeting s m) back ∙ ap (λ (ps : List Packet). d.world.packets ++ ps) (origin_silent s (recovered n) origin)
          ∙ append-nil d.world.packets;
      gathering = f.gathering;
    }
