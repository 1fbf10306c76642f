-- What imports find over the disks of a group, behind commits and other calls.
use Rattle.std.proofs.Common.{◌≡◌, ◌⊎◌, inl, inr, ℕ, suc, ◌+◌, ◌<◌, Bool, true, false, Option, Some, List, [], ◌∷◌, length, Result, Ok, Err, refl, ap, sym, ◌∙◌, subst, arith}
use Rattle.vx_disk.specs.Shelf.{Each, Image, Lawful, Meaning}
use Rattle.vx_model.specs.declared.no.No.{No}
use Rattle.vx_copyfmt.specs.Commits.{Answers, GivesConfig}
use Rattle.vx_copyfmt.specs.Imports.{Damaged, Format, Found, Missing, NoConfig, ImportOutcome as Finding}
use Rattle.vx_copyfmt.proofs.Areas.{no_torn}
use Rattle.vx_config.specs.declared.config.Config.{Config}
use Rattle.vx_config.specs.declared.entry.DiskEntry.{DiskEntry}
use Rattle.vx_copies.specs.Answers.{good_set}
use Rattle.vx_copies.specs.Bodies.{failed_in}
use Rattle.vx_copies.specs.Commits.{Below, CommitEnds, Done, Finds, IsTry, MoreFailed, FoundOutcome, ReadyDisks, Silent, WasCommitted}
use Rattle.vx_copies.specs.Looking.{on_shelf}
use Rattle.vx_copies.specs.Marks.{blocks_at, failed_at}
use Rattle.vx_kept.specs.Finds.{FindsFrom, IsTryOf, NoConfiguration, good_config}
use Rattle.vx_kept.specs.Groups.{found, found_by}
use Rattle.vx_kept.specs.Keeping.{Base, IsTidy, Kept}
use Rattle.vx_kept.specs.Trusts.{AllGood, TrustEnds, Trusts, is_plain}
use Rattle.vx_kept.proofs.Chosen.{settle_found}
use Rattle.vx_kept.proofs.Findings.{good_grown}
use Rattle.vx_kept.proofs.Lasting.{cases_bool}
use Rattle.vx_kept.proofs.Low.{found_same, import_low, mix, mix_each, mix_low}

-- ---- one configuration

found_one : (x y : Config) → Found x ≡ Found y → x ≡ y
found_one x y is = cc

gives_plain : (w : Config) (o : Finding Config) → GivesConfig w o → is_plain o ≡ true
gives_plain w (Found x) gives = refl
gives_plain w (Missing disk) gives = refl
gives_plain w NoConfig gives = refl
gives_plain w (Damaged disk block stored computed) gives = absurd gives
gives_plain w (Format version) gives = absurd gives

gives_one : (w y : Config) (o : Finding Config) → o ≡ Found y → GivesConfig w o → y ≡ w
gives_one w y o is gives = subst (GivesConfig w) is gives

plain_gives : (w : Config) (o : Finding Config) → ((y : Config) → o ≡ Found y → y ≡ w) → is_plain o ≡ true → GivesConfig w o
plain_gives w (Found x) one plain = one x refl
plain_gives w (Missing disk) one plain = tt
plain_gives w NoConfig one plain = tt
plain_gives w (Damaged disk block stored computed) one plain = absurd (let clash : false ≡ true = plain in cc)
plain_gives w (Format version) one plain = absurd (let clash : false ≡ true = plain in cc)

-- where nothing is said
pub no_trusts : (good : ℕ) (m : Meaning) → Trusts false false good m
no_trusts good m = record {
  both = λ is. is;
  agree = λ is. absurd (let clash : false ≡ true = is in cc);
  plain = λ is. absurd (let clash : false ≡ true = is in cc);
  one = λ is. absurd (let clash : false ≡ true = is in cc);
  members = λ is. absurd (let clash : false ≡ true = is in cc);
}

-- where it is not said that the newest configuration is committed
pub unsaid_trusts : (committed agreed : Bool) (good : ℕ) (m : Meaning) → Trusts committed agreed good m → Trusts false agreed good m
unsaid_trusts committed agreed good m was = record {
  both = λ is. absurd (let clash : false ≡ true = is in cc);
  agree = was.agree;
  plain = was.plain;
  one = λ is. absurd (let clash : false ≡ true = is in cc);
  members = λ is. absurd (let clash : false ≡ true = is in cc);
}

-- the committed configuration of an image
pub was_of : (agreed : Bool) (good : ℕ) (m : Meaning) → Trusts true agreed good m → ((i : Image) → Each m.leaves i → (x : Config) × (found m i ≡ Found x)) → (i : Image) (x : Config) → Each m.leaves i → found m i ≡ Found x → WasCommitted good (Some x) m
was_of agreed good m trusts sees i x each is = record {
  committed = record {
    each = λ j R left.
        let it = sees j left in
        plain_gives x (found_by m R j) (λ y found_y. trusts.agree (trusts.both refl) j R it.0 y left it.1 found_y ∙ trusts.one refl i j x it.0 each left is it.1) (trusts.plain (trusts.both refl) j R it.0 left it.1);
  };
  members = λ u lt bit. trusts.members refl i x u each is lt bit;
}

-- and back
pub of_was : (good : ℕ) (d : Config) (m : Meaning) → ((i : Image) → Each m.leaves i → WasCommitted good (Some d) m) → Trusts true true good m
of_was good d m was = record {
  both = λ is. is;
  agree = λ is i R x y left in_all in_some. gives_one d y (found_by m R i) in_some ((was i left).committed.each i R left) ∙ sym (all_one i x left in_all);
  plain = λ is i R x left in_all. gives_plain d (found_by m R i) ((was i left).committed.each i R left);
  one = λ is i j x y left_i left_j in_i in_j. all_one j y left_j in_j ∙ sym (all_one i x left_i in_i);
  members = λ is i x u left in_all lt bit. ap (λ (c : Config). failed_at c.disks u) (all_one i x left in_all) ∙ (was i left).members u lt bit;
}
  where
    all_one : (i : Image) (x : Config) → Each m.leaves i → found m i ≡ Found x → x ≡ d
    all_one i x left in_all = gives_one d x (found m i) in_all ((was i left).committed.each i (λ u. true) left)

-- ---- disks that are all good

disks_same : (ds es : List DiskEntry) → length ds ≡ length es → ((u : ℕ) → blocks_at ds u ≡ blocks_at es u) → ((u : ℕ) → failed_at ds u ≡ failed_at es u) → ds ≡ es
disks_same [] [] count blocks failed = refl
disks_same [] (e ∷ es) count blocks failed = absurd (omega (arith, count))
disks_same (d ∷ ds) [] count blocks failed = absurd (omega (arith, count))
disks_same (d ∷ ds) (e ∷ es) count blocks failed =
    ap (λ (n : ℕ). record { blocks = n; failed = d.failed } ∷ ds) (blocks 0) ∙ ap (λ (b : Bool). record { blocks = e.blocks; failed = b } ∷ ds) (failed 0)
    ∙ ap (λ (xs : List DiskEntry). e ∷ xs) (disks_same ds es (omega (arith, count)) (λ u. blocks (suc u)) (λ u. failed (suc u)))

stayed_good : (a b : Bool) → (a ≡ true → b ≡ true) → b ≡ false → a ≡ false
stayed_good true b stays is = absurd (let clash : false ≡ true = sym is ∙ stays refl in cc)
stayed_good false b stays is = refl

all_before : (old new : Meaning) (before after : List DiskEntry) → MoreFailed old new before after → AllGood after → (u : ℕ) → failed_at before u ≡ false
all_before old new before after more good u = stayed_good (failed_at before u) (failed_at after u) (more.stays u) (good.each u)

all_same : (old new : Meaning) (before after : List DiskEntry) → MoreFailed old new before after → AllGood after → after ≡ before
all_same old new before after more good = disks_same after before more.count more.blocks (λ u. good.each u ∙ sym (all_before old new before after more good u))

-- ---- a commit

below_of : (c a : Config) (m : Meaning) → Base c m → a.serial ≡ c.serial → Below a m
below_of c a m base serial = record { each = λ u lt b v h is left head. let was = base.below.each u lt b v h is left head in omega (arith, was, serial) }

-- of disks that are all held as good none says anything else
again_was : (good : ℕ) (c a d : Config) (old new : Meaning) → Base c old → a.serial ≡ c.serial → Done good a d old new → AllGood d.disks → WasCommitted (good_set d.disks) (Some d) new
again_was good c a d old new base serial done all = done.again (below_of c a old base serial) silent base.labels (all_same old new a.disks d.disks done.grown.disks all)
  where
    silent : Silent a old
    silent = record {
      each = λ i R each reads none. absurd (
          let held : failed_at a.disks reads.disk ≡ false = all_before old new a.disks d.disks done.grown.disks all reads.disk in
          let clash : false ≡ true = sym held ∙ reads.failed in cc);
    }

-- the first commit
pub trust_first : (good : ℕ) (c d : Config) (old new : Meaning) → Base c old → Done good c d old new → (now : Bool) → (now ≡ true → AllGood d.disks) → Trusts now now (good_set d.disks) new
trust_first good c d old new base done false why = no_trusts (good_set d.disks) new
trust_first good c d old new base done true why = of_was (good_set d.disks) d new (λ i each. again_was good c c d old new base refl done (why refl))

module _ (good : ℕ) (c a d : Config) (old new : Meaning) (lawful : Lawful old) (lawful' : Lawful new) (base : Base c old) (tidy : IsTidy a old) (serial : a.serial ≡ c.serial)
    (sees : (i : Image) → Each old.leaves i → (x : Config) × (found old i ≡ Found x)) (units : new.units ≡ old.units) (size : (u : ℕ) → new.size u ≡ old.size u) (tells : new.tells ≡ old.tells) where
  trust_below : Below a old
  trust_below = below_of c a old base serial

  -- an image of before
  some_image : (i : Image) → Each new.leaves i → (j : Image) × Each old.leaves j
  some_image i each = elim (cases_bool new.tells) [
    | inl told ↦ let some = lawful.image (sym tells ∙ told) in (some.0, lawful.within some.0 some.1)
    | inr not ↦ absurd (lawful'.none not 0 0 (i 0 0) (each 0 0))
  ]

  -- the committed configuration of before
  was_before : (agreed : Bool) → Trusts true agreed good old → (i : Image) → Each new.leaves i → (x : Config) × WasCommitted good (Some x) old
  was_before agreed trusts i each =
      let some = some_image i each in
      let it = sees some.0 some.1 in
      (it.0, was_of agreed good old trusts sees some.0 it.0 some.1 it.1)

  module _ (done : Done good a d old new) where
    now_was : (committed agreed : Bool) → Trusts committed agreed good old → (committed ≡ true) ⊎ AllGood d.disks → (i : Image) → Each new.leaves i → WasCommitted (good_set d.disks) (Some d) new
    now_was true agreed trusts (inl is) i each =
        let was = was_before agreed trusts i each in
        done.committed (Some was.0) was.1 trust_below (record { each = λ u marked. tidy.each u marked.held }) base.labels
    now_was false agreed trusts (inl is) i each = absurd (let clash : false ≡ true = is in cc)
    now_was committed agreed trusts (inr all) i each = again_was good c a d old new base serial done all

    pub trust_done : (committed agreed : Bool) → Trusts committed agreed good old → (now : Bool) → (now ≡ true → (committed ≡ true) ⊎ AllGood d.disks) → Trusts now now (good_set d.disks) new
    trust_done committed agreed trusts false why = no_trusts (good_set d.disks) new
    trust_done committed agreed trusts true why = of_was (good_set d.disks) d new (λ i each. now_was committed agreed trusts (why refl) i each)

  module _ (last : ℕ) (finds : Finds good (IsTry a last old new) a old new) where
    trust_ready : ReadyDisks a old
    trust_ready = record { below = trust_below; counts = λ u held. base.counts u held.below }

    -- what each import gives then
    gives_of : (agreed : Bool) → Trusts true agreed good old → (i : Image) → Each new.leaves i → (w : Config) × ((R : ℕ → Bool) → GivesConfig w (found_by new R i))
    gives_of agreed trusts i each =
        let was = was_before agreed trusts i each in
        let outcome = finds.outcome_now (Some was.0) was.1 trust_ready base.labels i each in
        let config = chosen was.0 outcome in (
          config.0,
          λ R. subst (GivesConfig config.0) (sym (found_same old new units size R i)) (elim (outcome.each R) [
            | inl answers ↦ subst (λ (o : Option Config). Answers o (found_by old R i)) config.1 answers
            | inr bad ↦ absurd (no_torn (on_shelf old) (a.serial + 1) (old.leaves bad.disk) (i bad.disk) (tidy.each bad.disk bad.is) bad.torn)
          ]),
        )
      where
        chosen : {i : Image} (x : Config) (o : FoundOutcome (IsTry a last old new) (Some x) a old i) → (w : Config) × (o.found ≡ Some w)
        chosen x o = elim o.which [
          | inl same ↦ (x, same)
          | inr begun ↦ (begun.1, begun.2)
        ]

    -- each image has a configuration of before, or one that was begun
    pub tried_finds : FindsFrom (IsTryOf a) old new
    tried_finds = record {
      each = λ i x each is.
          let all : ℕ → Bool = λ u. true in
          let here : found old i ≡ Found x = sym (found_same old new units size all i) ∙ is in
          elim ((finds.now trust_ready i each).each all) [
            | inl was ↦ inl (record { image = was.image; left = was.left; found = sym was.same ∙ here })
            | inr (inl made) ↦ inr (
                let same : made.config ≡ x = settle_found old.units all made.config x (sym made.found ∙ here) in
                ap good_config (sym same) ∙ good_grown old new a made.config made.made.grown)
            | inr (inr bad) ↦ absurd (no_torn (on_shelf old) (a.serial + 1) (old.leaves bad.disk) (i bad.disk) (tidy.each bad.disk bad.is) bad.torn)
          ];
    }

    pub trust_left : (committed agreed : Bool) → Trusts committed agreed good old → Trusts false committed good new
    trust_left false agreed trusts = no_trusts good new
    trust_left true agreed trusts = record {
      both = λ is. absurd (let clash : false ≡ true = is in cc);
      agree = λ is i R x y each in_all in_some.
          let it = gives_of agreed trusts i each in
          gives_one it.0 y (found_by new R i) in_some (it.1 R) ∙ sym (gives_one it.0 x (found new i) in_all (it.1 (λ u. true)));
      plain = λ is i R x each in_all. let it = gives_of agreed trusts i each in gives_plain it.0 (found_by new R i) (it.1 R);
      one = λ is. absurd (let clash : false ≡ true = is in cc);
      members = λ is. absurd (let clash : false ≡ true = is in cc);
    }

    pub trust_ends : {T : Type 0} (r : Result T No) → CommitEnds good a d old new r → (committed agreed : Bool) → Trusts committed agreed good old → TrustEnds committed good d new r
    trust_ends (Ok x) done committed agreed trusts = trust_done done committed agreed trusts
    trust_ends (Err why) refused committed agreed trusts = trust_left committed agreed trusts

-- ---- calls that leave no more before the public region

module _ (m m' : Meaning) (lawful : Lawful m) (lawful' : Lawful m') (units : m'.units ≡ m.units) (size : (u : ℕ) → m'.size u ≡ m.size u) (tells : m'.tells ≡ m.tells)
    (low : (u b : ℕ) (v : List ℕ) → b < 512 → m'.leaves u b v → m.leaves u b v) where
  -- an image of before that agrees with one of now there
  mixed : (i : Image) → Each m'.leaves i → (j : Image) × Each m.leaves j × ((u b : ℕ) → b < 512 → i u b ≡ j u b)
  mixed i each = elim (cases_bool m'.tells) [
    | inl told ↦
        let some = lawful.image (sym tells ∙ told) in
        (mix i some.0, (λ u b. mix_each m.leaves i some.0 u b (λ lt. low u b (i u b) lt (each u b)) (lawful.within some.0 some.1 u b)), λ u b lt. sym (mix_low i some.0 u b lt))
    | inr not ↦ absurd (lawful'.none not 0 0 (i 0 0) (each 0 0))
  ]

  same_found : (i j : Image) → ((u b : ℕ) → b < 512 → i u b ≡ j u b) → (R : ℕ → Bool) → found_by m R j ≡ found_by m' R i
  same_found i j same R = sym (found_same m m' units size R i ∙ import_low (on_shelf m) i j same failed_in m.units R)

  -- no image has another configuration than one had
  pub less_finds : FindsFrom NoConfiguration m m'
  less_finds = record { each = λ i x each is. let j = mixed i each in inl (record { image = j.0; left = j.1; found = same_found i j.0 j.2 (λ u. true) ∙ is }) }

module _ (committed agreed : Bool) (good : ℕ) (m m' : Meaning) (lawful : Lawful m) (lawful' : Lawful m') (units : m'.units ≡ m.units) (size : (u : ℕ) → m'.size u ≡ m.size u) (tells : m'.tells ≡ m.tells)
    (low : (u b : ℕ) (v : List ℕ) → b < 512 → m'.leaves u b v → m.leaves u b v) where
  pub less_trusts : Trusts committed agreed good m → Trusts committed agreed good m'
  less_trusts was = record {
    both = was.both;
    agree = λ is i R x y each in_all in_some.
        let j = mixed m m' lawful lawful' units size tells low i each in
        let at = same_found m m' lawful lawful' units size tells low i j.0 j.2 in
        was.agree is j.0 R x y j.1 (at (λ u. true) ∙ in_all) (at R ∙ in_some);
    plain = λ is i R x each in_all.
        let j = mixed m m' lawful lawful' units size tells low i each in
        let at = same_found m m' lawful lawful' units size tells low i j.0 j.2 in
        ap is_plain (sym (at R)) ∙ was.plain is j.0 R x j.1 (at (λ u. true) ∙ in_all);
    one = λ is i j x y left_i left_j in_i in_j.
        let k = mixed m m' lawful lawful' units size tells low i left_i in
        let l = mixed m m' lawful lawful' units size tells low j left_j in
        was.one is k.0 l.0 x y k.1 l.1 (same_found m m' lawful lawful' units size tells low i k.0 k.2 (λ u. true) ∙ in_i) (same_found m m' lawful lawful' units size tells low j l.0 l.2 (λ u. true) ∙ in_j);
    members = λ is i x u each in_all lt bit.
        let j = mixed m m' lawful lawful' units size tells low i each in
        was.members is j.0 x u j.1 (same_found m m' lawful lawful' units size tells low i j.0 j.2 (λ u. true) ∙ in_all) (omega (arith, units, lt)) bit;
  }

-- an image is found where the disks keep a configuration
pub sees_of : (c : Config) (G : ℕ → Type 0) (m : Meaning) → Kept c G m → (i : Image) → Each m.leaves i → (x : Config) × (found m i ≡ Found x)
sees_of c G m kept i each = let sees = kept.sees i each in (sees.config, sees.found)
