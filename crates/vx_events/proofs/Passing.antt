-- Tests of an event that do not hold.
use Rattle.std.proofs.Common.{◌≡◌, ◌∙◌, ◌+◌, ◌<◌, ◌≤◌, ℕ, zero, suc, Bool, false, ap, refl, arith, length}
use Rattle.std.specs.Prelude.{not, ◌||◌, leb, ltb, eqb, Option, None}
use Rattle.std.proofs.lemmas.Bool.Decides.{nat_tests}
use Rattle.vx_model.specs.Answer.{is_wrong_count, is_past}
use Rattle.vx_model.specs.Sites.{is_up, is_bare}
use Rattle.vx_model.specs.declared.no.Named.TheVariants.{Number as ByNumber}
use Rattle.vx_model.specs.declared.no.No.{No}
use Rattle.vx_model.specs.declared.no.No.TheVariants.{Unknown, Range, Size, Role as WrongRole, Down as NotUp}
use Rattle.vx_model.specs.declared.site.Role.{Role}
use Rattle.vx_model.specs.declared.site.Role.TheVariants.{Primary}
use Rattle.vx_model.specs.declared.site.SiteState.{SiteState}
use Rattle.vx_model.specs.declared.site.SiteState.TheVariants.{Up}
use Rattle.vx_history.specs.Refusals.{Outcome, unless, unless_halted, is_primary, at_site, at_work, on_volume, some_below}
use Rattle.vx_history.specs.World.{World}

pub off : (b : Bool) (why : No) (w : World) (o : Outcome) → b ≡ false → unless b why w o ≡ o
off b why w o e = ap (λ (t : Bool). unless t why w o) e

pub above : (a b : ℕ) → b < a → leb a b ≡ false
above a b h = grind (arith, nat_tests)

pub not_below : (a b : ℕ) → b ≤ a → ltb a b ≡ false
not_below a b h = grind (arith, nat_tests)

pub is_more : (a : ℕ) → 1 ≤ a → eqb a 0 ≡ false
is_more a h = grind (arith, nat_tests)

pub neither : (a b : Bool) → a ≡ false → b ≡ false → (a || b) ≡ false
neither a b e f = ap (λ (t : Bool). t || b) e ∙ f

pub is_site : (w : World) (p : ℕ) (o : Outcome) → p < w.sites → at_site w p o ≡ o
is_site w p o h = off (leb w.sites p) (Unknown (ByNumber p)) w o (above w.sites p h)

pub is_at_work : (w : World) (p : ℕ) (o : Outcome) → (w.nodes p).state ≡ Up → (w.nodes p).halted ≡ None → at_work w p o ≡ o
is_at_work w p o up runs =
    off (not (is_up (w.nodes p).state)) NotUp w (unless_halted (w.nodes p).halted w o) (ap (λ (s : SiteState). not (is_up s)) up)
    ∙ ap (λ (h : Option ℕ). unless_halted h w o) runs

-- a run of blocks at a primary that is up and runs
pub record IsCall (w : World) (p volume start count : ℕ) : Type 0 where
  pub site : p < w.sites
  pub up : (w.nodes p).state ≡ Up
  pub running : (w.nodes p).halted ≡ None
  pub primary : (w.nodes p).role ≡ Primary
  pub known : volume < length (w.nodes p).volumes
  pub some : 1 ≤ count
  pub few : count ≤ 16
  pub within : start + count ≤ (w.nodes p).base.size volume

pub is_call : (w : World) (p volume start count : ℕ) (large : Bool) (o : Outcome) → IsCall w p volume start count → large ≡ false
    → on_volume w p volume start count large o ≡ o
is_call w p volume start count large o c small =
    let past : Outcome = unless (is_past (w.nodes p).base volume start count) Range w o in
    let sized : Outcome = unless (is_wrong_count count || large) Size w past in
    let known : Outcome = unless (leb (length (w.nodes p).volumes) volume) (Unknown (ByNumber volume)) w sized in
    let led : Outcome = unless (not (is_primary (w.nodes p).role)) WrongRole w known in
    let works : Outcome = at_work w p led in
    is_site w p (unless (is_bare (w.nodes p).state) (Unknown (ByNumber volume)) w works) c.site
    ∙ off (is_bare (w.nodes p).state) (Unknown (ByNumber volume)) w works (ap (λ (s : SiteState). is_bare s) c.up)
    ∙ is_at_work w p led c.up c.running
    ∙ off (not (is_primary (w.nodes p).role)) WrongRole w known (ap (λ (r : Role). not (is_primary r)) c.primary)
    ∙ off (leb (length (w.nodes p).volumes) volume) (Unknown (ByNumber volume)) w sized (above (length (w.nodes p).volumes) volume c.known)
    ∙ off (is_wrong_count count || large) Size w past (neither (is_wrong_count count) large (neither (eqb count 0) (ltb 16 count) (is_more count c.some) (not_below 16 count c.few)) small)
    ∙ off (is_past (w.nodes p).base volume start count) Range w o (not_below ((w.nodes p).base.size volume) (start + count) c.within)

pub none_below : (n : ℕ) (test : ℕ → Bool) → ((k : ℕ) → test k ≡ false) → some_below n test ≡ false
none_below zero test none = refl
none_below (suc k) test none = neither (test k) (some_below k test) (none k) (none_below k test none)
