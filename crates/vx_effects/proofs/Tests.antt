-- What is said of an event behind its tests, whatever they say.
use Rattle.std.proofs.Common.{◌≡◌, ℕ, ◌<◌, Bool, true, false, refl, arith, length}
use Rattle.std.proofs.lemmas.Bool.{not-false}
use Rattle.std.specs.Prelude.{not, ◌&&◌, ◌||◌, leb, Option, Some, None}
use Rattle.std.proofs.lemmas.Bool.Decides.{nat_tests}
use Rattle.vx_history.proofs.StateCases.{up_is}
use Rattle.vx_history.proofs.Updates.{by_test, and_left, and_right}
use Rattle.vx_history.specs.Refusals.{Outcome, refused, unless, unless_halted, is_primary, at_site, at_work, both_at_work, on_link_if, when_live, on_volume}
use Rattle.vx_history.specs.Sends.{is_linked}
use Rattle.vx_history.specs.World.{World, Link}
use Rattle.vx_model.specs.Answer.{is_wrong_count, is_past}
use Rattle.vx_model.specs.Sites.{is_up, is_bare}
use Rattle.vx_model.specs.declared.no.Named.TheVariants.{Number as ByNumber}
use Rattle.vx_model.specs.declared.no.No.{No}
use Rattle.vx_model.specs.declared.no.No.TheVariants.{Unknown, Role as WrongRole, Down as NotUp, LinkDown, Paused, Size, Range}
use Rattle.vx_model.specs.declared.no.SiteName.TheVariants.{Number as SiteNumber}
use Rattle.vx_model.specs.declared.site.Role.{Role}
use Rattle.vx_model.specs.declared.site.SiteState.TheVariants.{Up}

pub below_is : (a b : ℕ) → leb a b ≡ false → b < a
below_is a b e = grind (arith, nat_tests)

-- for whatever is said of an outcome, and of each refusal
module _ (Q : Outcome → Type 0) (w : World) (none : (why : No) → Q (refused w why)) where
  pub unless_ends : (b : Bool) (why : No) (o : Outcome) → (b ≡ false → Q o) → Q (unless b why w o)
  unless_ends b why o k = by_test Q b (refused w why) o (λ _. none why) k

  pub halted_ends : (halted : Option ℕ) (o : Outcome) → (halted ≡ None → Q o) → Q (unless_halted halted w o)
  halted_ends None o k = k refl
  halted_ends (Some disk) o k = none _

  pub site_ends : (p : ℕ) (o : Outcome) → (p < w.sites → Q o) → Q (at_site w p o)
  site_ends p o k = unless_ends (leb w.sites p) (Unknown (ByNumber p)) o (λ e. k (below_is w.sites p e))

  pub work_ends : (p : ℕ) (o : Outcome) → ((w.nodes p).state ≡ Up → (w.nodes p).halted ≡ None → Q o) → Q (at_work w p o)
  work_ends p o k =
      unless_ends (not (is_up (w.nodes p).state)) NotUp (unless_halted (w.nodes p).halted w o)
      (λ u. halted_ends (w.nodes p).halted o (k (up_is (w.nodes p).state (not-false (is_up (w.nodes p).state) u))))

  pub both_ends : (p q : ℕ) (o : Outcome) → ((w.nodes p).state ≡ Up → (w.nodes q).state ≡ Up → (w.nodes p).halted ≡ None → (w.nodes q).halted ≡ None → Q o)
      → Q (both_at_work w p q o)
  both_ends p q o k =
      unless_ends (not (is_up (w.nodes p).state && is_up (w.nodes q).state)) NotUp
      (unless_halted (w.nodes p).halted w (unless_halted (w.nodes q).halted w o))
      (λ u.
      let both : (is_up (w.nodes p).state && is_up (w.nodes q).state) ≡ true = not-false (is_up (w.nodes p).state && is_up (w.nodes q).state) u in
      halted_ends (w.nodes p).halted (unless_halted (w.nodes q).halted w o)
      (λ runs. halted_ends (w.nodes q).halted o
      (λ runs_too. k (up_is (w.nodes p).state (and_left (is_up (w.nodes p).state) (is_up (w.nodes q).state) both))
      (up_is (w.nodes q).state (and_right (is_up (w.nodes p).state) (is_up (w.nodes q).state) both)) runs runs_too)))

  pub link_ends : (test : Role → Bool) (p q : ℕ) (o : Outcome) → ((w.nodes p).state ≡ Up → is_linked (w.links p q) ≡ true → Q o) → Q (on_link_if test w p q o)
  link_ends test p q o k =
      let linked : Outcome = unless (not (is_linked (w.links p q))) (Unknown (ByNumber q)) w o in
      let led : Outcome = unless (not (test (w.nodes p).role)) WrongRole w linked in
      site_ends p (at_site w q (at_work w p led))
      (λ _. site_ends q (at_work w p led)
      (λ _. work_ends p led
      (λ up _. unless_ends (not (test (w.nodes p).role)) WrongRole linked
      (λ _. unless_ends (not (is_linked (w.links p q))) (Unknown (ByNumber q)) o (λ m. k up (not-false (is_linked (w.links p q)) m))))))

  pub live_ends : (q : ℕ) (l : Link) (o : Outcome) → Q o → Q (when_live w q l o)
  live_ends q l o k =
      unless_ends (not (l.attached && l.connected)) (LinkDown (SiteNumber q)) (unless l.paused Paused w o) (λ _. unless_ends l.paused Paused o (λ _. k))

  pub volume_ends : (p volume start count : ℕ) (large : Bool) (o : Outcome) → ((w.nodes p).state ≡ Up → Q o) → Q (on_volume w p volume start count large o)
  volume_ends p volume start count large o k =
      let range : Outcome = unless (is_past (w.nodes p).base volume start count) Range w o in
      let sized : Outcome = unless (is_wrong_count count || large) Size w range in
      let known : Outcome = unless (leb (length (w.nodes p).volumes) volume) (Unknown (ByNumber volume)) w sized in
      let led : Outcome = unless (not (is_primary (w.nodes p).role)) WrongRole w known in
      site_ends p (unless (is_bare (w.nodes p).state) (Unknown (ByNumber volume)) w (at_work w p led))
      (λ _. unless_ends (is_bare (w.nodes p).state) (Unknown (ByNumber volume)) (at_work w p led)
      (λ _. work_ends p led
      (λ up _. unless_ends (not (is_primary (w.nodes p).role)) WrongRole known
      (λ _. unless_ends (leb (length (w.nodes p).volumes) volume) (Unknown (ByNumber volume)) sized
      (λ _. unless_ends (is_wrong_count count || large) Size range
      (λ _. unless_ends (is_past (w.nodes p).base volume start count) Range o (λ _. k up)))))))
