-- Tests of two worlds that differ in one halted site and its links alone.
use Rattle.vx_model.specs.Sites.{is_up}
use Rattle.std.proofs.Common.{◌≡◌, ◌∙◌, inl, inr, ℕ, ap, sym, subst, refl, Bool, true, false}
use Rattle.std.specs.Prelude.{Option, Some, None, not, leb}
use Rattle.std.proofs.lemmas.Bool.{cases_eq}
use Rattle.vx_history.specs.Refusals.{Outcome, unless, unless_halted, at_site, at_work, on_link_if, is_running}
use Rattle.vx_history.specs.Sends.{is_linked}
use Rattle.vx_history.specs.Step.{done}
use Rattle.vx_history.specs.World.{Node, Link, World}
use Rattle.vx_model.specs.declared.no.No.{No}
use Rattle.vx_model.specs.declared.no.No.TheVariants.{Unknown, Role as WrongRole, Down as NotUp}
use Rattle.vx_model.specs.declared.no.Named.TheVariants.{Number as ByNumber}
use Rattle.vx_model.specs.declared.site.Role.{Role}
use Rattle.vx_model.specs.declared.site.SiteState.{SiteState}
use Rattle.vx_world.specs.Twins.{Twin}

-- ---- tests side by side

pub not_both : (b : Bool) → b ≡ true → b ≡ false → ⊥
not_both true e f = let g : true ≡ false = f in cc
not_both false e f = let g : false ≡ true = e in cc

pub both : (s : ℕ) (b c : Bool) (why how : No) (w v : World) (o r : Outcome) → c ≡ b → Twin s w v → (b ≡ false → Twin s o.world r.world)
    → Twin s (unless b why w o).world (unless c how v r).world
both s true true why how w v o r same twin rest = twin
both s false false why how w v o r same twin rest = rest refl
both s true false why how w v o r same twin rest = absurd (not_both true refl (sym same))
both s false true why how w v o r same twin rest = absurd (not_both false (sym same) refl)

pub stuck : (w : World) (h : Option ℕ) (o : Outcome) → is_running h ≡ false → (unless_halted h w o).world ≡ w
stuck w None o e = absurd (not_both true refl e)
stuck w (Some disk) o e = refl

-- a site at work is another one
pub works : (s : ℕ) (w v : World) (p : ℕ) (o r : Outcome) → Twin s w v → ((p ≡ s → ⊥) → Twin s o.world r.world)
    → Twin s (at_work w p o).world (at_work v p r).world
works s w v p o r twin rest = elim (cases_eq p s) [
  | inl same ↦
      subst (λ (i : ℕ). Twin s (at_work w i o).world (at_work v i r).world) (sym same)
      (both s (not (is_up (w.nodes s).state)) (not (is_up (v.nodes s).state)) NotUp NotUp w v (unless_halted (w.nodes s).halted w o)
      (unless_halted (v.nodes s).halted v r)
      (ap (λ (t : SiteState). not (is_up t)) (twin.up_too ∙ sym twin.up)) twin
      (λ _. subst (λ (x : World). Twin s x (unless_halted (v.nodes s).halted v r).world) (sym (stuck w (w.nodes s).halted o twin.halted))
      (subst (λ (x : World). Twin s w x) (sym (stuck v (v.nodes s).halted r twin.halted_too)) twin)))
  | inr apart ↦
      both s (not (is_up (w.nodes p).state)) (not (is_up (v.nodes p).state)) NotUp NotUp w v (unless_halted (w.nodes p).halted w o)
      (unless_halted (v.nodes p).halted v r)
      (ap (λ (n : Node). not (is_up n.state)) (twin.nodes p apart)) twin
      (λ _. halts (w.nodes p).halted (v.nodes p).halted (ap (λ (n : Node). n.halted) (twin.nodes p apart)) (rest apart))
]
  where
    halts : (h k : Option ℕ) → k ≡ h → Twin s o.world r.world → Twin s (unless_halted h w o).world (unless_halted k v r).world
    halts None k e done = subst (λ (j : Option ℕ). Twin s o.world (unless_halted j v r).world) (sym e) done
    halts (Some disk) k e done = subst (λ (j : Option ℕ). Twin s w (unless_halted j v r).world) (sym e) twin

pub there : (s : ℕ) (w v : World) (p : ℕ) (o r : Outcome) → Twin s w v → Twin s o.world r.world → Twin s (at_site w p o).world (at_site v p r).world
there s w v p o r twin rest = both s (leb w.sites p) (leb v.sites p) (Unknown (ByNumber p)) (Unknown (ByNumber p)) w v o r
    (ap (λ (k : ℕ). leb k p) twin.sites) twin (λ _. rest)

pub linked : (s : ℕ) (test : Role → Bool) (w v : World) (p q : ℕ) (o r : Outcome) → Twin s w v → ((p ≡ s → ⊥) → Twin s o.world r.world)
    → Twin s (on_link_if test w p q o).world (on_link_if test v p q r).world
linked s test w v p q o r twin rest =
    let role_w = unless (not (is_linked (w.links p q))) (Unknown (ByNumber q)) w o in
    let role_v = unless (not (is_linked (v.links p q))) (Unknown (ByNumber q)) v r in
    let work_w = unless (not (test (w.nodes p).role)) WrongRole w role_w in
    let work_v = unless (not (test (v.nodes p).role)) WrongRole v role_v in
    there s w v p (at_site w q (at_work w p work_w)) (at_site v q (at_work v p work_v)) twin
    (there s w v q (at_work w p work_w) (at_work v p work_v) twin
    (works s w v p work_w work_v twin
    (λ apart. both s (not (test (w.nodes p).role)) (not (test (v.nodes p).role)) WrongRole WrongRole w v role_w role_v
    (ap (λ (n : Node). not (test n.role)) (twin.nodes p apart)) twin
    (λ _. both s (not (is_linked (w.links p q))) (not (is_linked (v.links p q))) (Unknown (ByNumber q)) (Unknown (ByNumber q)) w v o r
    (ap (λ (row : ℕ → Link). not (is_linked (row q))) (twin.rows p apart)) twin
    (λ _. rest apart)))))
