-- `plan_of`: its result; what `new` asks.
use Rattle.std.proofs.Common.{ℕ, Bool, false, List, [], ◌∷◌, refl, arith}
use Rattle.vx_kept.proofs.Narrower.{sound_few}
use Rattle.vx_group.proofs.ResumeLemmas.{false_at, plan_can, zeros_at}
use Rattle.vx_group.proofs.taking.plan_of.Goals as goal

-- arrays as they begin
abbrev zeros : List ℕ
zeros = 0 ∷ (0 ∷ (0 ∷ (0 ∷ (0 ∷ (0 ∷ (0 ∷ (0 ∷ (0 ∷ (0 ∷ (0 ∷ (0 ∷ (0 ∷ (0 ∷ (0 ∷ (0 ∷ (0 ∷ (0 ∷ (0 ∷ (0 ∷ (0 ∷ (0 ∷ (0 ∷ (0 ∷ (0 ∷ (0 ∷ (0 ∷ (0 ∷ (0 ∷ (0 ∷ (0 ∷ (0 ∷ [])))))))))))))))))))))))))))))))

abbrev falses : List Bool
falses = false ∷ (false ∷ (false ∷ (false ∷ (false ∷ (false ∷ (false ∷ (false ∷ (false ∷ (false ∷ (false ∷ (false ∷ (false ∷ (false ∷ (false ∷ (false ∷ (false ∷ (false ∷ (false ∷ (false ∷ (false ∷ (false ∷ (false ∷ (false ∷ (false ∷ (false ∷ (false ∷ (false ∷ (false ∷ (false ∷ (false ∷ (false ∷ [])))))))))))))))))))))))))))))))

pub new-requires-clause-can : goal.new-requires-clause-can
new-requires-clause-can c =
    c.make_open.ensures.can (plan_can c.args.config c.args.good c.requires.sound c.sizes_fit.ensures.few (let le = c.in_default.ensures.0 in omega (arith, le)) c.in_default.ensures.1)

pub new-requires-clause-short : goal.new-requires-clause-short
new-requires-clause-short c = sound_few c.make_open.new.config (c.make_open.ensures.sound c.requires.sound)

pub returns : goal.returns
returns c = record {
  serial = c.in_default.ensures.0;
  few = c.sizes_fit.ensures.few;
  some = c.in_default.ensures.1;
  small = c.sizes_fit.ensures.small;
  opens = c.make_open.ensures.opens;
  sound = c.make_open.ensures.sound c.requires.sound;
  good = refl;
  unsettled = refl;
  committed = refl;
  agreed = refl;
  fresh = record { faults = zeros_at zeros refl; sure = false_at falses refl };
  stopped = c.stopped_of-stopped.ensures;
  sources = c.sources_of-sources.ensures;
}

pub returns-in-Err : goal.returns-in-Err
returns-in-Err c = tt

pub returns-in-Some : goal.returns-in-Some
returns-in-Some c = c.in-Some.ensures
