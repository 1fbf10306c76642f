-- What is refused leaves a world as it was, and what goes past a test is known of it.
use Rattle.std.proofs.Common.{◌≡◌, ◌∙◌, ℕ, ◌≤◌, Bool, true, false, ap, sym, refl, arith, length}
use Rattle.std.proofs.lemmas.Bool.{not-false}
use Rattle.std.specs.Prelude.{not, ◌&&◌, ◌||◌, leb, Option, Some, None}
use Rattle.std.proofs.lemmas.Bool.Decides.{nat_tests}
use Rattle.vx_history.specs.World.{World, Link}
use Rattle.vx_model.specs.Sites.{is_origin}
use Rattle.vx_model.specs.declared.site.Role.{Role}
use Rattle.vx_model.specs.declared.site.Role.TheVariants.{Primary, Secondary, Handing, Bunker}
use Rattle.vx_model.specs.declared.site.SiteState.{SiteState}
use Rattle.vx_model.specs.declared.site.SiteState.TheVariants.{Bare, Up}
use Rattle.vx_model.specs.declared.no.No.{No}
use Rattle.vx_model.specs.declared.no.No.TheVariants.{Unknown, Role as WrongRole, Down as NotUp, LinkDown, Paused, Size, Range}
use Rattle.vx_model.specs.declared.no.Named.TheVariants.{Number as ByNumber}
use Rattle.vx_model.specs.declared.no.SiteName.TheVariants.{Number as SiteNumber}
use Rattle.vx_model.specs.Answer.{is_wrong_count, is_past}
use Rattle.vx_history.proofs.StateCases.{up_is}
use Rattle.vx_history.proofs.Updates.{by_test, and_left, and_right}
use Rattle.vx_history.specs.Sends.{is_linked}
use Rattle.vx_history.specs.Sound.{is_at_rest}
use Rattle.vx_history.specs.Refusals.{Outcome, refused, unless, unless_halted, is_primary, at_site, at_work, both_at_work, on_link_if, when_live, on_volume}
use Rattle.vx_model.specs.Sites.{is_up, is_bare}

-- a site that is down or deported is more than bare, and not up
pub rest_up : (s : SiteState) → is_at_rest s ≡ true → s ≡ Up → ⊥
rest_up s rest up = let e : false ≡ true = sym (ap is_at_rest up) ∙ rest in cc

pub rest_bare : (s : SiteState) → is_at_rest s ≡ true → s ≡ Bare → ⊥
rest_bare s rest bare = let e : false ≡ true = sym (ap is_at_rest bare) ∙ rest in cc

pub primary_origin : (r : Role) → is_primary r ≡ true → is_origin r ≡ true
primary_origin Primary e = refl
primary_origin Secondary e = absurd (cc)
primary_origin (Handing to) e = refl
primary_origin Bunker e = absurd (cc)

pub below_is : (a b : ℕ) → leb a b ≡ false → b ≤ a
below_is a b e = grind (arith, nat_tests)

-- for whatever holds of a world
module _ (P : World → Type 0) where
  -- it holds of the world that an outcome leaves
  abbrev pub Holds : Outcome → Type 0
  Holds o = P o.world

  pub unless_holds : (b : Bool) (why : No) (w : World) (o : Outcome) → P w → (b ≡ false → Holds o) → Holds (unless b why w o)
  unless_holds b why w o s k = by_test Holds b (refused w why) o (λ _. s) k

  pub halted_holds : (halted : Option ℕ) (w : World) (o : Outcome) → P w → (halted ≡ None → Holds o) → Holds (unless_halted halted w o)
  halted_holds None w o s k = k refl
  halted_holds (Some disk) w o s k = s

  pub at_site_holds : (w : World) (p : ℕ) (o : Outcome) → P w → (leb w.sites p ≡ false → Holds o) → Holds (at_site w p o)
  at_site_holds w p o s k = unless_holds (leb w.sites p) (Unknown (ByNumber p)) w o s k

  pub at_work_holds : (w : World) (p : ℕ) (o : Outcome) → P w → ((w.nodes p).state ≡ Up → (w.nodes p).halted ≡ None → Holds o) → Holds (at_work w p o)
  at_work_holds w p o s k =
      unless_holds (not (is_up (w.nodes p).state)) NotUp w (unless_halted (w.nodes p).halted w o) s
      (λ u. halted_holds (w.nodes p).halted w o s (k (up_is (w.nodes p).state (not-false (is_up (w.nodes p).state) u))))

  pub both_holds : (w : World) (p q : ℕ) (o : Outcome) → P w → ((w.nodes p).state ≡ Up → (w.nodes q).state ≡ Up → (w.nodes p).halted ≡ None → (w.nodes q).halted ≡ None → Holds o)
      → Holds (both_at_work w p q o)
  both_holds w p q o s k =
      unless_holds (not (is_up (w.nodes p).state && is_up (w.nodes q).state)) NotUp w
      (unless_halted (w.nodes p).halted w (unless_halted (w.nodes q).halted w o)) s
      (λ u.
      let both : (is_up (w.nodes p).state && is_up (w.nodes q).state) ≡ true = not-false (is_up (w.nodes p).state && is_up (w.nodes q).state) u in
      halted_holds (w.nodes p).halted w (unless_halted (w.nodes q).halted w o) s
      (λ none. halted_holds (w.nodes q).halted w o s
      (λ runs. k (up_is (w.nodes p).state (and_left (is_up (w.nodes p).state) (is_up (w.nodes q).state) both))
      (up_is (w.nodes q).state (and_right (is_up (w.nodes p).state) (is_up (w.nodes q).state) both)) none runs)))

  pub on_link_holds : (test : Role → Bool) (w : World) (p q : ℕ) (o : Outcome) → P w
      → ((w.nodes p).state ≡ Up → test (w.nodes p).role ≡ true → is_linked (w.links p q) ≡ true → Holds o) → Holds (on_link_if test w p q o)
  on_link_holds test w p q o s k =
      at_site_holds w p _ s
      (λ _. at_site_holds w q _ s
      (λ _. at_work_holds w p _ s
      (λ up _. unless_holds (not (test (w.nodes p).role)) WrongRole w (unless (not (is_linked (w.links p q))) (Unknown (ByNumber q)) w o) s
      (λ r. unless_holds (not (is_linked (w.links p q))) (Unknown (ByNumber q)) w o s
      (λ m. k up (not-false (test (w.nodes p).role) r) (not-false (is_linked (w.links p q)) m))))))

  pub when_live_holds : (w : World) (q : ℕ) (l : Link) (o : Outcome) → P w → Holds o → Holds (when_live w q l o)
  when_live_holds w q l o s k =
      unless_holds (not (l.attached && l.connected)) (LinkDown (SiteNumber q)) w (unless l.paused Paused w o) s
      (λ _. unless_holds l.paused Paused w o s (λ _. k))

  pub on_volume_holds : (w : World) (p volume start count : ℕ) (too_large : Bool) (o : Outcome) → P w
      → ((w.nodes p).state ≡ Up → (w.nodes p).halted ≡ None → is_primary (w.nodes p).role ≡ true → Holds o)
      → Holds (on_volume w p volume start count too_large o)
  on_volume_holds w p volume start count too_large o s k =
      at_site_holds w p _ s
      (λ _. unless_holds (is_bare (w.nodes p).state) (Unknown (ByNumber volume)) w _ s
      (λ _. at_work_holds w p _ s
      (λ up runs. unless_holds (not (is_primary (w.nodes p).role)) WrongRole w _ s
      (λ r. unless_holds (leb (length (w.nodes p).volumes) volume) (Unknown (ByNumber volume)) w _ s
      (λ _. unless_holds (is_wrong_count count || too_large) Size w _ s
      (λ _. unless_holds (is_past (w.nodes p).base volume start count) Range w o s
      (λ _. k up runs (not-false (is_primary (w.nodes p).role) r))))))))
