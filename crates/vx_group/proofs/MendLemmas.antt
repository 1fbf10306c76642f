-- Volumes of which one plex was copied to the others, one after the other.
use Rattle.std.proofs.Common.{◌≡◌, ◌⊎◌, inl, inr, ⊎_elim, ℕ, ◌+◌, ◌<◌, ◌≤◌, Bool, true, false, IsTrue, IsFalse, List, [], length, refl, ap, sym, ◌∙◌, subst, arith}
use Rattle.std.proofs.lemmas.Bool.{cases_eq, cases_lt}
use Rattle.vx_disk.specs.Moves.{Says}
use Rattle.vx_disk.specs.Shelf.{Goes, Lawful, Meaning, Nothing, Or, Values}
use Rattle.vx_disk.proofs.Runs.{same_Goes as any_same}
use Rattle.vx_layout.specs.Places.{place}
use Rattle.vx_volume.specs.Plexes.{Inside, active}
use Rattle.vx_config.specs.Checks.{blocks_of}
use Rattle.vx_config.specs.declared.config.Config.{Config}
use Rattle.vx_config.specs.declared.entry.VolumeEntry.{VolumeEntry}
use Rattle.vx_logs.specs.declared.logs.Logs.{Logs}
use Rattle.vx_model.specs.Sizes.{regions_of}
use Rattle.vx_resync.specs.Picks.{DrlReaches, InPicked, marked_or}
use Rattle.vx_kept.proofs.Chosen.{active_volumes, place_volumes}
use Rattle.vx_volume.proofs.ReadRuns.{still}
use Rattle.vx_kept.specs.Cleans.{is_unsure}
use Rattle.vx_kept.specs.Groups.{OnSome, OutsideVolumes}
use Rattle.vx_kept.proofs.Lasting.{cases_bool}
use Rattle.vx_kept.proofs.StateLemmas.{same_shape, then_shape}
use Rattle.vx_kept.specs.Keeping.{Acts, SameShape, Sees}
use Rattle.vx_kept.proofs.Steps.{both_Acts, group-Goes, inside_back, inside_same, same_Acts, wide_Acts}
use Rattle.vx_group.specs.Attaches.{AnyImage}
use Rattle.vx_group.specs.Copying.{CopyMoved, FromSource, Mirrored, NoMember}
use Rattle.vx_group.specs.Laws.{group_lawful}
use Rattle.vx_group.specs.Mends.{AgreeElsewhere, GroupGoesOn, MarksTell, Mending, OnMarked, drl_at}
use Rattle.vx_group.specs.Resumes.{IsMended, source_at}
use Rattle.vx_group.specs.Stands.{InnerStands, volume_faults, inner_meaning}
use Rattle.vx_group.specs.declared.inner.Inner.{Inner}
use Rattle.vx_group.proofs.AttachLemmas.{any_acts}
use Rattle.vx_group.proofs.CopyLemmas.{has_picked, not_picked, spent_both, spent_none}
use Rattle.vx_group.proofs.Standing.{apart_of_core}

-- ---- what is written back as it was read is nothing

module _ (V : Values) (a b : Meaning) (before : Lawful a) (after : Lawful b) (goes : Goes V a b) (read : (u k : ℕ) (x : List ℕ) → IsTrue a.tells → V u k x → a.reads u k x) where
  told : IsTrue b.tells → IsTrue a.tells
  told tells = sym goes.tells ∙ tells

  fewer : IsTrue a.tells → (u k : ℕ) (x : List ℕ) → Or a.leaves V u k x → Or a.leaves Nothing u k x
  fewer tells u k x (inl was) = inl was
  fewer tells u k x (inr put) = inl (before.shown u k x (read u k x tells put))

  tells_of : (u k : ℕ) (x : List ℕ) → b.leaves u k x → IsTrue a.tells
  tells_of u k x left = elim (cases_bool b.tells) [
    | inl tells ↦ told tells
    | inr not ↦ absurd (after.none not u k x left)
  ]

  pub absorbed : Goes Nothing a b
  absorbed = record {
    units = goes.units;
    size = goes.size;
    tells = goes.tells;
    reads = λ u k x is. elim (goes.reads u k x is) [
      | inl (inl was) ↦ inl (inl was)
      | inl (inr put) ↦ inl (inl (read u k x (tells_of u k x (after.shown u k x is)) put))
      | inr down ↦ inr down
    ];
    leaves = λ u k x left. fewer (tells_of u k x left) u k x (goes.leaves u k x left);
    later = goes.later;
    since = λ t i le left. elim (goes.since t i le left) [
      | inl was ↦ inl was
      | inr each ↦ elim (cases_bool b.tells) [
        | inl tells ↦ inr (λ u k. fewer (told tells) u k (i u k) (each u k))
        | inr not ↦ absurd (after.never not t i left)
      ]
    ];
    keeps = goes.keeps;
    faults = goes.faults;
    disk_faults = goes.disk_faults;
    falls = goes.falls;
    unarmed = goes.unarmed;
    safe = goes.safe;
  }

-- ---- a volume that was copied is to the group no step at all

module _ (d e : Inner) (v source : ℕ) (P : ℕ → Type 0) (m1 m2 : Meaning) (law1 : Lawful m1) (law2 : Lawful m2) (stands : InnerStands d m1) (is_on : IsTrue (active d.config v source)) (moved : CopyMoved d v source P e m1 m2) where
  abbrev Put : Values
  Put w k x = IsTrue m1.tells → (inner_meaning d m1).reads w k x

  no_less : (u : ℕ) → volume_faults d.faults u ≤ volume_faults e.faults u
  no_less u = let same : volume_faults e.faults u ≡ volume_faults d.faults u = ap (λ (f : List ℕ). volume_faults f u) moved.faults in omega (arith, same)

  in_volume : (w p k : ℕ) (x : List ℕ) → Inside d.config w k → IsTrue (active d.config w p) → FromSource d.config v source P m1 (place d.config w p k).0 (place d.config w p k).1 x → Put w k x
  in_volume w p k x in_it on it tells =
      let one = (apart_of_core d m1 stands).one w p k v it.plex it.number in_it it.inside on it.is_on (sym it.at) in
      subst (λ (y : ℕ). (inner_meaning d m1).reads y k x) (sym one.0) (subst (λ (j : ℕ). (inner_meaning d m1).reads v j x) (sym one.2) (inl (record { inside = it.inside; plex = source; is_on = is_on; value = it.value tells })))

  copied_Goes : Goes Put (inner_meaning d m1) (inner_meaning e m2)
  copied_Goes = group-Goes d.config e.config NoMember (volume_faults d.faults) (volume_faults e.faults) m1 m2 (FromSource d.config v source P m1) Put moved.acts (apart_of_core d m1 stands) moved.shape moved.on in_volume no_less
      (λ not t i left. law2.never not t i left)

  pub moved_Goes : Goes Nothing (inner_meaning d m1) (inner_meaning e m2)
  moved_Goes = absorbed Put (inner_meaning d m1) (inner_meaning e m2) (group_lawful d m1 law1 stands) (group_lawful e m2 law2 moved.stands) copied_Goes (λ u k x tells put. put tells)

-- ---- which blocks are written

module _ (c d : Config) (flags : List Bool) (logs : List Logs) (shape : SameShape d c) (on : (w p : ℕ) → IsTrue (active d w p) → IsTrue (active c w p)) where
  pub marked_back : (u b : ℕ) (x : List ℕ) → OnMarked d flags logs u b x → OnMarked c flags logs u b x
  marked_back u b x it = record {
    volume = it.volume;
    plex = it.plex;
    number = it.number;
    stopped = it.stopped;
    marked = it.marked;
    inside = inside_same d c shape it.volume it.number it.inside;
    is_on = on it.volume it.plex it.is_on;
    at = sym (shape.place it.volume it.plex it.number) ∙ it.at;
  }

  pub then_marked : (a b m : Meaning) → Acts (OnMarked c flags logs) AnyImage a b → Acts (OnMarked d flags logs) AnyImage b m → Acts (OnMarked c flags logs) AnyImage a m
  then_marked a b m one two = wide_Acts (Or (OnMarked c flags logs) (OnMarked d flags logs)) (OnMarked c flags logs) AnyImage a m
      (both_Acts (OnMarked c flags logs) (OnMarked d flags logs) AnyImage AnyImage a b m one two (λ i now. tt)) (λ u k x. ⊎_elim (λ put. put) (λ put. marked_back u k x put))

-- nothing was
pub none_marked : (c : Config) (flags : List Bool) (logs : List Logs) (P : Says) (a b : Meaning) → Acts Nothing P a b → Acts (OnMarked c flags logs) AnyImage a b
none_marked c flags logs P a b acts = any_acts Nothing (OnMarked c flags logs) P a b acts (λ u k x none. absurd none)

-- ---- the loop over the volumes

pub none_mended : (core : Inner) (flags : List Bool) (sources : List ℕ) (logs : List Logs) (m : Meaning) → InnerStands core m → core.unsettled ≡ false → (IsTrue m.down → ⊥) → Goes Nothing (inner_meaning core m) (inner_meaning core m) → Mending core flags sources logs 0 core m m
none_mended core flags sources logs m stands settled up goes = record {
  on = record { stands = stands; shape = same_shape core.config; on = λ w p is. is; faults = refl; unsure = refl; goes = goes; unit_faults = λ u. omega arith; disk_faults = λ u. omega arith };
  spent = spent_none core.config m m;
  only = any_acts Nothing (OnMarked core.config flags logs) AnyImage m m (same_Acts AnyImage m) (λ u b x none. absurd none);
  settled = settled;
  trust = λ is. is;
  up = up;
  mended = λ v lt mark. absurd (omega (arith, lt));
  rest = λ w p k x le in_it on is. is;
  still = λ w p le. refl;
}

-- no call at all
pub same_Goes : (m : Meaning) → Goes Nothing m m
same_Goes m = any_same Nothing m

-- a volume that was made alike stays so in each call that changes nothing
pub mended_later : (core d e : Inner) (v source : ℕ) (old m1 m2 : Meaning) → Goes Nothing (inner_meaning d m1) (inner_meaning e m2) → IsMended core.config v source d old m1 → IsMended core.config v source e old m2
mended_later core d e v source old m1 m2 goes was = record {
  value = was.value;
  origin = was.origin;
  one = λ k x in_it left. was.one k x in_it (⊎_elim (λ is. is) (λ none. absurd none) (goes.leaves v k x left));
}

module _ (core d : Inner) (flags : List Bool) (sources : List ℕ) (logs : List Logs) (n : ℕ) (old m1 : Meaning) (was : Mending core flags sources logs n d old m1) where
  pub mend_skip : is_unsure flags n ≡ false → Mending core flags sources logs (n + 1) d old m1
  mend_skip off = record {
    on = was.on;
    spent = was.spent;
    only = was.only;
    settled = was.settled;
    trust = was.trust;
    up = was.up;
    mended = λ v lt mark. elim (cases_lt v n) [
      | inl less ↦ was.mended v less mark
      | inr le ↦ let at : v ≡ n = omega (arith, lt, le) in absurd (let clash : false ≡ true = sym off ∙ subst (λ (w : ℕ). is_unsure flags w ≡ true) at mark in cc)
    ];
    rest = λ w p k x le in_it on is. was.rest w p k x (omega (arith, le)) in_it on is;
    still = λ w p le. was.still w p (omega (arith, le));
  }

  module _ (e : Inner) (m2 : Meaning) (law1 : Lawful m1) (law2 : Lawful m2) (on_core : IsTrue (active core.config n (source_at sources n))) where
    source_on : IsTrue (active d.config n (source_at sources n))
    source_on = was.still n (source_at sources n) (omega arith) ∙ on_core

    step_Goes : (P : ℕ → Type 0) → CopyMoved d n (source_at sources n) P e m1 m2 → Goes Nothing (inner_meaning d m1) (inner_meaning e m2)
    step_Goes P moved = moved_Goes d e n (source_at sources n) P m1 m2 law1 law2 was.on.stands source_on moved

    pub mend_on : (P : ℕ → Type 0) → CopyMoved d n (source_at sources n) P e m1 m2 → GroupGoesOn core e old m2
    mend_on P moved = record {
      stands = moved.stands;
      shape = then_shape e.config d.config core.config moved.shape was.on.shape;
      on = λ w p is. was.on.on w p (moved.on w p is);
      faults = moved.faults ∙ was.on.faults;
      unsure = moved.unsure ∙ was.on.unsure;
      goes = still (inner_meaning core old) (inner_meaning d m1) (inner_meaning e m2) was.on.goes (step_Goes P moved);
      unit_faults = λ u. let one = was.on.unit_faults u in let two = moved.acts.faults u in omega (arith, one, two);
      disk_faults = λ u. let one = was.on.disk_faults u in let two = moved.acts.disk_faults u in omega (arith, one, two);
    }

    -- what was written for this volume
    pub only_more : is_unsure flags n ≡ true → CopyMoved d n (source_at sources n) (InPicked (marked_or (drl_at logs n))) e m1 m2 → Acts (OnMarked core.config flags logs) AnyImage old m2
    only_more mark moved = then_marked core.config core.config flags logs (same_shape core.config) (λ w p is. is) old m1 m2 was.only
        (any_acts (FromSource d.config n (source_at sources n) (InPicked (marked_or (drl_at logs n))) m1) (OnMarked core.config flags logs) (Sees d.config NoMember m1) m1 m2 moved.acts
        (λ u b x it. record {
          volume = n;
          plex = it.plex;
          number = it.number;
          stopped = mark;
          marked = it.is_one;
          inside = inside_same d.config core.config was.on.shape n it.number it.inside;
          is_on = was.on.on n it.plex it.is_on;
          at = sym (was.on.shape.place n it.plex it.number) ∙ it.at;
        }))

    module _ (f : ℕ → Bool) (law0 : Lawful old) (agree : AgreeElsewhere core.config n f old) (mirrored : Mirrored d n (source_at sources n) f e m1 m2) where
      moved : CopyMoved d n (source_at sources n) (InPicked f) e m1 m2
      moved = mirrored.moved

      -- what a read gave before
      to_old : (p k : ℕ) (x : List ℕ) → Inside core.config n k → IsTrue (active d.config n p) → m1.reads (place d.config n p k).0 (place d.config n p k).1 x → old.reads (place core.config n p k).0 (place core.config n p k).1 x
      to_old p k x in_it on is = was.rest n p k x (omega arith) in_it on (subst (λ (q : ℕ × ℕ). m1.reads q.0 q.1 x) (was.on.shape.place n p k) is)

      inside_d : (k : ℕ) → Inside core.config n k → Inside d.config n k
      inside_d k in_it = inside_back d.config core.config was.on.shape n k in_it

      -- a value of the source in a block that was not copied
      any_value : (k : ℕ) → IsTrue old.tells ⊎ IsFalse old.tells → List ℕ
      any_value k (inl tells) = (law0.some tells (place core.config n (source_at sources n) k).0 (place core.config n (source_at sources n) k).1).0
      any_value k (inr not) = []

      any_read : (k : ℕ) → (t : IsTrue old.tells ⊎ IsFalse old.tells) → IsTrue old.tells → old.reads (place core.config n (source_at sources n) k).0 (place core.config n (source_at sources n) k).1 (any_value k t)
      unfolding any_value
      any_read k (inl is) tells = (law0.some is (place core.config n (source_at sources n) k).0 (place core.config n (source_at sources n) k).1).1
      any_read k (inr not) tells = absurd (let clash : true ≡ false = sym tells ∙ not in cc)

      value : ℕ → List ℕ
      value k = elim (has_picked f k) [ inl is ↦ mirrored.value k | inr never ↦ any_value k (cases_bool old.tells) ]

      value_read : (k : ℕ) → Inside core.config n k → IsTrue old.tells → old.reads (place core.config n (source_at sources n) k).0 (place core.config n (source_at sources n) k).1 (value k)
      unfolding value
      value_read k in_it tells = by (has_picked f k)
        where
          by : (c : InPicked f k ⊎ (InPicked f k → ⊥)) → old.reads (place core.config n (source_at sources n) k).0 (place core.config n (source_at sources n) k).1 (elim c [ inl is ↦ mirrored.value k | inr never ↦ any_value k (cases_bool old.tells) ])
          by (inl is) = to_old (source_at sources n) k (mirrored.value k) in_it source_on (mirrored.origin k is (inside_d k in_it) (was.on.goes.tells ∙ tells))
          by (inr never) = any_read k (cases_bool old.tells) tells

      -- whatever a crash leaves is it
      left_one : (p k : ℕ) (x : List ℕ) → Inside core.config n k → IsTrue (active e.config n p) → m2.leaves (place d.config n p k).0 (place d.config n p k).1 x → x ≡ value k
      unfolding value
      left_one p k x in_it on left = by (has_picked f k)
        where
          told : IsTrue old.tells
          told = elim (cases_bool m2.tells) [
            | inl tells ↦ sym (moved.acts.tells ∙ was.on.goes.tells) ∙ tells
            | inr not ↦ absurd (law2.none not (place d.config n p k).0 (place d.config n p k).1 x left)
          ]

          by : (c : InPicked f k ⊎ (InPicked f k → ⊥)) → x ≡ elim c [ inl is ↦ mirrored.value k | inr never ↦ any_value k (cases_bool old.tells) ]
          by (inl is) = mirrored.one p k x is (inside_d k in_it) on left
          by (inr never) =
              agree.same p (source_at sources n) k x (any_value k (cases_bool old.tells)) in_it (not_picked f k never) (was.on.on n p (moved.on n p on)) on_core
              (to_old p k x in_it (moved.on n p on) (mirrored.kept p k x never (inside_d k in_it) on left)) (any_read k (cases_bool old.tells) told)

      mended_here : IsMended core.config n (source_at sources n) e old m2
      mended_here = record { value = value; origin = value_read; one = λ k x in_it left. by k x in_it left }
        where
          by : (k : ℕ) (x : List ℕ) → Inside core.config n k → OnSome e.config m2.leaves n k x ⊎ OutsideVolumes m2.tells e.config n k x → x ≡ value k
          by k x in_it (inl at) = left_one at.plex k x in_it at.is_on (subst (λ (q : ℕ × ℕ). m2.leaves q.0 q.1 x) (moved.shape.place n at.plex k) at.value)
          by k x in_it (inr out) = absurd (out.outside (inside_back e.config d.config moved.shape n k (inside_d k in_it)))

      pub mend_more : Acts (OnMarked core.config flags logs) AnyImage old m2 → Mending core flags sources logs (n + 1) e old m2
      mend_more only = record {
        on = mend_on (InPicked f) moved;
        spent = spent_both core.config d.config e.config old m1 m2 was.on.disk_faults moved.acts.disk_faults was.on.unit_faults moved.acts.faults was.spent moved.spent;
        only = only;
        settled = mirrored.settled;
        trust = λ is. mirrored.trust (was.trust is);
        up = mirrored.up;
        mended = λ v lt mark. elim (cases_eq v n) [
          | inl at ↦ subst (λ (w : ℕ). IsMended core.config w (source_at sources w) e old m2) (sym at) mended_here
          | inr other ↦ mended_later core d e v (source_at sources v) old m1 m2 (step_Goes (InPicked f) moved) (was.mended v (elim (cases_lt v n) [ inl less ↦ less | inr le ↦ absurd (other (omega (arith, lt, le))) ]) mark)
        ];
        rest = λ w p k x le in_it on is.
            let on_d : IsTrue (active d.config w p) = moved.on w p on in
            was.rest w p k x (omega (arith, le)) in_it on_d
            (subst (λ (q : ℕ × ℕ). m1.reads q.0 q.1 x) (was.on.shape.place w p k)
            (mirrored.rest w p k x (λ same. omega (arith, same, le)) (inside_back d.config core.config was.on.shape w k in_it) on (subst (λ (q : ℕ × ℕ). m2.reads q.0 q.1 x) (sym (was.on.shape.place w p k)) is)));
        still = λ w p le. moved.others w p (λ same. omega (arith, same, le)) ∙ was.still w p (omega (arith, le));
      }

-- ---- what logs tell

-- without logs
pub no_marks : (c : Config) (flags : List Bool) (m : Meaning) → MarksTell c flags [] m
no_marks c flags m = record { reach = λ v lt. tt; agree = λ v lt mark. record { same = λ p q k x y in_it off on too here there. absurd (let clash : true ≡ false = off in cc) } }

-- over the same volumes with fewer reads
module _ (c d : Config) (m m' : Meaning) (volumes : d.volumes ≡ c.volumes) (above : (w p k : ℕ) → Inside d w k → IsTrue (active d w p) → 512 ≤ (place d w p k).1) (less : (u b : ℕ) (x : List ℕ) → 512 ≤ b → m'.reads u b x → m.reads u b x) where
  inside_c : (v k : ℕ) → Inside d v k → Inside c v k
  inside_c v k in_it = record {
    volume = subst (λ (vs : List VolumeEntry). v < length vs) volumes in_it.volume;
    within = subst (λ (vs : List VolumeEntry). k < blocks_of vs v) volumes in_it.within;
  }

  before : (v p k : ℕ) (x : List ℕ) → Inside d v k → IsTrue (active d v p) → m'.reads (place d v p k).0 (place d v p k).1 x → m.reads (place c v p k).0 (place c v p k).1 x
  before v p k x in_it is_on is = subst (λ (r : ℕ × ℕ). m.reads r.0 r.1 x) (place_volumes d c volumes v p k) (less (place d v p k).0 (place d v p k).1 x (above v p k in_it is_on) is)

  there_too : (v : ℕ) → v < length d.volumes → v < length c.volumes
  there_too v lt = subst (λ (vs : List VolumeEntry). v < length vs) volumes lt

  pub marks_later : (flags : List Bool) (logs : List Logs) → MarksTell c flags logs m → MarksTell d flags logs m'
  marks_later flags logs tell = record {
    reach = λ v lt. subst (λ (vs : List VolumeEntry). DrlReaches (regions_of (blocks_of vs v)) (drl_at logs v)) (sym volumes) (tell.reach v (there_too v lt));
    agree = λ v lt mark. record {
      same = λ p q k x y in_it off on too here there.
          (tell.agree v (there_too v lt) mark).same p q k x y (inside_c v k in_it) off (sym (active_volumes d c volumes v p) ∙ on) (sym (active_volumes d c volumes v q) ∙ too) (before v p k x in_it on here) (before v q k y in_it too there);
    };
  }
