-- What is refused leaves the world sound.
use Rattle.std.proofs.Common.{◌≡◌, ℕ, Bool, true, false}
use Rattle.std.specs.Prelude.{leb, Option, None}
use Rattle.vx_history.specs.World.{World, Link}
use Rattle.vx_model.specs.declared.site.Role.{Role}
use Rattle.vx_model.specs.declared.site.SiteState.TheVariants.{Up}
use Rattle.vx_model.specs.declared.no.No.{No}
use Rattle.vx_history.specs.Sends.{is_linked}
use Rattle.vx_history.specs.Refusals.{Outcome, unless, unless_halted, is_primary, at_site, at_work, both_at_work, on_link_if, when_live, on_volume}
use Rattle.vx_history.specs.Sound.{Sound}
use Rattle.vx_world.proofs.Guards

-- the world that an outcome leaves is sound
abbrev pub Keeps : Outcome → Type 0
Keeps o = Sound o.world

pub unless_keeps : (b : Bool) (why : No) (w : World) (o : Outcome) → Sound w → (b ≡ false → Keeps o) → Keeps (unless b why w o)
unless_keeps = Guards.unless_holds Sound

pub halted_keeps : (halted : Option ℕ) (w : World) (o : Outcome) → Sound w → (halted ≡ None → Keeps o) → Keeps (unless_halted halted w o)
halted_keeps = Guards.halted_holds Sound

pub at_site_keeps : (w : World) (p : ℕ) (o : Outcome) → Sound w → (leb w.sites p ≡ false → Keeps o) → Keeps (at_site w p o)
at_site_keeps = Guards.at_site_holds Sound

pub at_work_keeps : (w : World) (p : ℕ) (o : Outcome) → Sound w → ((w.nodes p).state ≡ Up → (w.nodes p).halted ≡ None → Keeps o) → Keeps (at_work w p o)
at_work_keeps = Guards.at_work_holds Sound

pub both_keeps : (w : World) (p q : ℕ) (o : Outcome) → Sound w → ((w.nodes p).state ≡ Up → (w.nodes q).state ≡ Up → (w.nodes p).halted ≡ None → (w.nodes q).halted ≡ None → Keeps o)
    → Keeps (both_at_work w p q o)
both_keeps = Guards.both_holds Sound

pub on_link_keeps : (test : Role → Bool) (w : World) (p q : ℕ) (o : Outcome) → Sound w
    → ((w.nodes p).state ≡ Up → test (w.nodes p).role ≡ true → is_linked (w.links p q) ≡ true → Keeps o) → Keeps (on_link_if test w p q o)
on_link_keeps = Guards.on_link_holds Sound

pub when_live_keeps : (w : World) (q : ℕ) (l : Link) (o : Outcome) → Sound w → Keeps o → Keeps (when_live w q l o)
when_live_keeps = Guards.when_live_holds Sound

pub on_volume_keeps : (w : World) (p volume start count : ℕ) (too_large : Bool) (o : Outcome) → Sound w
    → ((w.nodes p).state ≡ Up → (w.nodes p).halted ≡ None → is_primary (w.nodes p).role ≡ true → Keeps o) → Keeps (on_volume w p volume start count too_large o)
on_volume_keeps = Guards.on_volume_holds Sound
