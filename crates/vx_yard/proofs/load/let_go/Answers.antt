-- `let_go`: its result.
use Rattle.std.proofs.Common.{◌≡◌, None, arith, false, refl, true}
use Rattle.vx_yard.proofs.Lists.{set_past}
use Rattle.vx_yard.proofs.load.let_go.Goals as goal

never : false ≡ true → ⊥
never e = cc

-- there is no such place
pub returns-in_default : goal.returns-in_default
returns-in_default c = record {
  assembly = record { held = None; whole = None };
  none = refl;
  is = set_past c.args.assemblies.now.items c.args.site _ (λ below. never (c.in_default.ensures.variant.1 (omega (arith, below, c.args.assemblies.now.ok))));
}
