-- A group that comes back by an import, as its site notes it.
use Rattle.std.proofs.Common.{◌≡◌, ◌⊎◌, inl, inr, ⊎_elim, ℕ, zero, suc, ◌<◌, ◌≤◌, ◌&&◌, ◌||◌, Bool, true, false, IsTrue, Option, Some, None, List, [], ◌∷◌, length, refl, ap, sym, ◌∙◌, subst, arith}
use Rattle.std.specs.Prelude.{◌+◌, not, ◌==◌, if◌then◌else◌, is_some, slice_get, Contains}
use Rattle.std.proofs.lemmas.Bool.{and_from, and_parts, cases_lt, eq-eqb, eqb-true}
use Rattle.vx_disk.specs.Shelf.{Each, Goes, Image, Lawful, Meaning, Nothing}
use Rattle.vx_history.specs.Groups.{BlockMay, GroupNode}
use Rattle.vx_history.specs.World.{Node}
use Rattle.vx_config.specs.Changes.{live_again}
use Rattle.vx_config.specs.Checks.{blocks_of, is_sound, plexes_of, plexes_or}
use Rattle.vx_config.specs.declared.config.Config.{Config}
use Rattle.vx_config.specs.declared.entry.PlexEntry.{PlexEntry}
use Rattle.vx_config.specs.declared.entry.VolumeEntry.{VolumeEntry}
use Rattle.vx_copyfmt.specs.Imports.{Found}
use Rattle.vx_disk.specs.Counts.{Rose}
use Rattle.vx_config.specs.declared.entry.DiskEntry.{DiskEntry}
use Rattle.vx_copies.specs.Answers.{returned, returned_from}
use Rattle.vx_copies.specs.Marks.{failed_at}
use Rattle.vx_copies.proofs.OneTry.{wanted_count}
use Rattle.vx_copies.specs.Bodies.{failed_in}
use Rattle.vx_copies.specs.Looking.{on_shelf}
use Rattle.vx_layout.proofs.Placing.{sound_apart}
use Rattle.vx_layout.specs.Places.{HasBlock, has_plex, place, plex_at, plex_in}
use Rattle.vx_volume.specs.Plexes.{Inside, active, active_or}
use Rattle.vx_kept.specs.Choice.{chosen, live, live_or}
use Rattle.vx_kept.specs.Groups.{OnSome, found, found_by, group_meaning}
use Rattle.vx_kept.specs.Keeping.{AllOn, Extends, frame_at}
use Rattle.vx_kept.proofs.Frames.{names_of}
use Rattle.vx_kept.proofs.Chosen.{extends_shape, extends_volumes, live_volumes, place_volumes}
use Rattle.vx_kept.proofs.Lasting.{cases_bool}
use Rattle.vx_kept.proofs.Low.{found_same, import_low}
use Rattle.vx_kept.proofs.Narrower.{on_live, sound_chosen, wanted_sound}
use Rattle.vx_group.specs.Creates.{SameUnits}
use Rattle.vx_group.specs.Dets.{any_below}
use Rattle.vx_group.specs.Holding.{wide}
use Rattle.vx_group.specs.Imports.{HalfResumed, ImportStops, Resumed}
use Rattle.vx_group.specs.Resumes.{CanImport, CanImportBehind, TakenUp, stopped}
use Rattle.vx_group.specs.Stands.{inner_meaning}
use Rattle.vx_group.specs.declared.group_core.GroupCore.{GroupCore}
use Rattle.vx_group.specs.declared.inner.Inner.{Inner}
use Rattle.vx_group.proofs.AgainLemmas.{goes_can}
use Rattle.vx_group.proofs.FoundLemmas.{found_wanted}
use Rattle.vx_group.proofs.HoldLemmas.{wide_none}
use Rattle.vx_group.proofs.ResumeLemmas.{live_there}
use Rattle.vx_grouped.specs.Away.{AwayLies}
use Rattle.vx_grouped.specs.Plain.{HoldsPlain}
use Rattle.vx_kept.specs.Facts.{is_found}
use Rattle.vx_group.proofs.Standing.{disks_fit}
use Rattle.vx_grouped.proofs.ImportMapLemmas.{clean_of}
use Rattle.vx_grouped.proofs.NoteLemmas.{blocks_same}
use Rattle.vx_grouped.proofs.StateChangeLemmas.{live_there as live_entry, on_there, opened_as}
use Rattle.vx_grouped.specs.Clean.{StoppedSome}
use Rattle.vx_grouped.specs.Returns.{DisksBack, HasNoMore, ImportLeft, TakesOpened, VolumesReturn, note_imported, note_loose}
use Rattle.vx_model.specs.declared.errors.Stop.{Stop}
use Rattle.vx_kept.proofs.Steps.{inside_back}
use Rattle.vx_kept.specs.Opens.{OpenVolumes}

-- ---- disks that were returned

-- one that is held as failed still could not be read
returned_failed : (readable : ℕ → Bool) (k : ℕ) (ds : List DiskEntry) (u : ℕ) → failed_at (returned_from readable k ds) u ≡ true → readable (k + u) ≡ false
returned_failed readable k [] u is = absurd (let clash : false ≡ true = is in cc)
returned_failed readable k (d ∷ ds) zero is = subst (λ (j : ℕ). readable j ≡ false) (let same : k ≡ k + zero = omega arith in same) (by (readable k) refl (and_parts d.failed (not (readable k)) is).1)
  where
    by : (t : Bool) → readable k ≡ t → not t ≡ true → readable k ≡ false
    by true on not_on = let clash : false ≡ true = not_on in cc
    by false off not_on = off
returned_failed readable k (d ∷ ds) (suc u) is = subst (λ (j : ℕ). readable j ≡ false) (let same : k + 1 + u ≡ k + suc u = omega arith in same) (returned_failed readable (k + 1) ds u is)

-- ---- an image with one block changed

abbrev put_block : Image → ℕ → ℕ → List ℕ → Image
put_block j u b x w k = if w == u && k == b then x else j w k

module _ (m : Meaning) (j : Image) (each : Each m.leaves j) (u b : ℕ) (high : 512 ≤ b) (x : List ℕ) (left : m.leaves u b x) where
  put_each : Each m.leaves (put_block j u b x)
  put_each w k = by (w == u && k == b) refl
    where
      by : (t : Bool) → (w == u && k == b) ≡ t → m.leaves w k (if t then x else j w k)
      by true is =
          let both = and_parts (w == u) (k == b) is in
          subst (λ (y : ℕ). m.leaves y k x) (sym (eqb-true w u both.0)) (subst (λ (z : ℕ). m.leaves u z x) (sym (eqb-true k b both.1)) left)
      by false is = each w k

  put_low : (w k : ℕ) → k < 512 → put_block j u b x w k ≡ j w k
  put_low w k low = by (w == u && k == b) refl
    where
      by : (t : Bool) → (w == u && k == b) ≡ t → (if t then x else j w k) ≡ j w k
      by true is = absurd (let same : k ≡ b = eqb-true k b (and_parts (w == u) (k == b) is).1 in omega (arith, same, low, high))
      by false is = refl

  put_found : found m (put_block j u b x) ≡ found m j
  put_found = import_low (on_shelf m) (put_block j u b x) j put_low failed_in m.units (λ w. true)

  put_here : put_block j u b x u b ≡ x
  put_here = ap (λ (t : Bool). if t then x else j u b) (and_from (u == u) (b == b) (eq-eqb u u refl) (eq-eqb b b refl))

-- ---- plexes that take part

some_live : (o : Option PlexEntry) → live_or o ≡ true → is_some o ≡ true
some_live None is = is
some_live (Some p) is = refl

live_block : (c : Config) (v p b : ℕ) → IsTrue (live c v p) → b < blocks_of c.volumes v → HasBlock c v p b
unfolding live has_plex
live_block c v p b is lt = record { plex = some_live (plex_at c v p) is; block = lt }

in_list : (ps : List PlexEntry) (p : ℕ) → active_or (slice_get ps p) ≡ true → p < length ps
in_list [] p is = absurd (let clash : false ≡ true = is in cc)
in_list (x ∷ ps) zero is = omega arith
in_list (x ∷ ps) (suc p) is = let lt = in_list ps p is in omega (arith, lt)

plex_below : (o : Option VolumeEntry) (p : ℕ) → active_or (plex_in o p) ≡ true → p < plexes_or o
plex_below None p is = absurd (let clash : false ≡ true = is in cc)
plex_below (Some v) p is = in_list v.plexes p is

or_true : (a : Bool) → a || true ≡ true
or_true true = refl
or_true false = refl

any_from : (test : ℕ → Bool) (n p : ℕ) → p < n → test p ≡ true → any_below test n ≡ true
any_from test zero p lt is = absurd (omega (arith, lt))
any_from test (suc n) p lt is = elim (cases_lt p n) [
  | inl less ↦ ap (λ (b : Bool). b || test n) (any_from test n p less is)
  | inr le ↦ let same : n ≡ p = omega (arith, lt, le) in ap (λ (b : Bool). any_below test n || b) (ap test same ∙ is) ∙ or_true (any_below test n)
]

stopped_by : (c : Config) (v p : ℕ) → IsTrue (active c v p) → stopped c v ≡ true
unfolding stopped active
stopped_by c v p is = any_from (λ q. active_or (plex_at c v q)) (plexes_of c v) p (plex_below (slice_get c.volumes v) p is) is

-- ---- volumes that are the first ones of others

then_extends : (z x c : Config) → Extends z x → Extends x c → length x.volumes ≡ length c.volumes → Extends z c
then_extends z x c one two same = record {
  volumes = let a = one.volumes in omega (arith, a, same);
  frames = λ v lt. one.frames v (omega (arith, lt, same)) ∙ two.frames v lt;
  blocks = λ v lt. one.blocks v (omega (arith, lt, same)) ∙ two.blocks v lt;
  place = λ v p b lt. one.place v p b (omega (arith, lt, same)) ∙ two.place v p b lt;
  logs = λ v log lt. one.logs v log (omega (arith, lt, same)) ∙ two.logs v log lt;
  trusted = λ v log lt is. two.trusted v log lt (one.trusted v log (omega (arith, lt, same)) is);
  beyond = λ v log past. one.beyond v log (omega (arith, past, same));
  fresh = λ v p past is. one.fresh v p (omega (arith, past, same)) is;
}

-- ---- what the disks may have of a block

module _ (n : Node) (note : GroupNode) (last : Config) (old : Meaning) (law : Lawful old) (away : AwayLies n note last old) where
  sound_found : (j : Image) (x : Config) → found old j ≡ Found x → is_sound x ≡ true
  sound_found j x is = wanted_sound old.units old.size x (found_wanted old (λ u. true) j x is)

  -- whatever a crash leaves of a block on a plex that takes part, in some image and so in each with this configuration
  may_at : (j : Image) (x : Config) → Each old.leaves j → found old j ≡ Found x → (v p b : ℕ) → Inside last v b → IsTrue (live x v p) → (y : List ℕ) → old.leaves (place x v p b).0 (place x v p b).1 y → BlockMay note v b y
  may_at j x each is v p b inside on y left =
      let same = (away.volumes j x each is).blocks v inside.volume in
      let within : b < blocks_of x.volumes v = (let lt = inside.within in omega (arith, lt, same)) in
      let u = (place x v p b).0 in
      let k = (place x v p b).1 in
      let high : 512 ≤ k = ((sound_apart x (sound_found j x is)).region v p b (live_block x v p b on within)).public in
      subst (λ (z : List ℕ). BlockMay note v b z) (put_here old j each u k high y left)
      (away.has (put_block j u k y) x (put_each old j each u k high y left) (put_found old j each u k high y left ∙ is) v p b inside on)

  -- the disks are as they were
  pub still_away : (new : Meaning) → Goes Nothing old new → AwayLies n note last new
  still_away new goes = record {
    units = goes.units ∙ away.units;
    size = λ u low. goes.size u ∙ away.size u low;
    can = λ tight. goes_can old new goes (away.can tight);
    sizes = away.sizes;
    finds = λ i each. subst (λ o. is_found o ≡ true) (sym (found_same old new goes.units goes.size (λ u. true) i)) (away.finds i (before i each));
    volumes = λ i x each is. away.volumes i x (before i each) (sym (found_same old new goes.units goes.size (λ u. true) i) ∙ is);
    has = λ i x each is. away.has i x (before i each) (sym (found_same old new goes.units goes.size (λ u. true) i) ∙ is);
  }
    where
      before : (i : Image) → Each new.leaves i → Each old.leaves i
      before i each u b = ⊎_elim (λ was. was) (λ none. absurd none) (goes.leaves u b (i u b) (each u b))

  -- ---- taken up

  module _ (can : CanImport old) (x opened : Config) (readable : ℕ → Bool) (image : Image) (read : IsTrue old.tells → Each old.reads image) (is : found_by old readable image ≡ Found x) (opens : OpenVolumes 0 (returned readable x) opened) where
    seen_image : IsTrue old.tells → Each old.leaves image
    seen_image tells u b = law.shown u b (image u b) (read tells u b)

    found_x : IsTrue old.tells → found old image ≡ Found x
    found_x tells = can.one image image readable x (seen_image tells) (seen_image tells) is

    told : (u b : ℕ) (y : List ℕ) → old.leaves u b y → IsTrue old.tells
    told u b y left = elim (cases_bool old.tells) [
      | inl tells ↦ tells
      | inr not ↦ absurd (law.none not u b y left)
    ]

    extends_x : IsTrue old.tells → Extends x last
    extends_x tells = away.volumes image x (seen_image tells) (found_x tells)

    place_x : (v p b : ℕ) → place opened v p b ≡ place x v p b
    place_x v p b = opens.alike.shape.place v p b ∙ place_volumes (returned readable x) x refl v p b

    live_x : (v p : ℕ) → live opened v p ≡ live x v p
    live_x v p = opens.alike.lives v p ∙ live_volumes (returned readable x) x refl v p

    -- a value on a plex of what was taken up
    may_opened : (v p b : ℕ) → Inside last v b → IsTrue (live opened v p) → (y : List ℕ) → old.leaves (place opened v p b).0 (place opened v p b).1 y → BlockMay note v b y
    may_opened v p b inside on y left =
        let tells = told (place opened v p b).0 (place opened v p b).1 y left in
        may_at image x (seen_image tells) (found_x tells) v p b inside (sym (live_x v p) ∙ on) y (subst (λ (at : ℕ × ℕ). old.leaves at.0 at.1 y) (place_x v p b) left)

    module _ (m : Meaning) (f : ℕ → ℕ) (goes : Goes Nothing (group_meaning opened f old) m) where
      -- what is left of a volume is what one of its plexes had
      was_opened : (v b : ℕ) (y : List ℕ) → Inside opened v b → m.leaves v b y → OnSome opened old.leaves v b y
      was_opened v b y inside left = elim (goes.leaves v b y left) [
        | inl (inl on) ↦ on
        | inl (inr out) ↦ absurd (out.outside inside)
        | inr none ↦ absurd none
      ]

  -- ---- done

  module _ (core : Inner) (new : Meaning) (can : CanImport old) (r : Resumed old core new) (same : SameUnits old new) where
    abbrev x : Config
    x = r.config

    abbrev opened : Config
    opened = r.opened

    abbrev up : TakenUp old new x opened
    up = r.taken

    many : ℕ
    many = length opened.volumes

    x_long : length opened.volumes ≡ length x.volumes
    x_long = up.opens.alike.shape.volumes

    blocks_x : (v : ℕ) → blocks_of opened.volumes v ≡ blocks_of x.volumes v
    blocks_x v = up.opens.alike.shape.blocks v

    -- the value of a block of a volume that stopped uncleanly
    abbrev one_value : (v : ℕ) → (v < length opened.volumes) ⊎ (length opened.volumes ≤ v) → (t : Bool) → stopped x v ≡ t → ℕ → List ℕ
    one_value v (inl lt) true is b = (r.mended v lt is).value b
    one_value v (inl lt) false is b = []
    one_value v (inr le) t is b = []

    abbrev value : ℕ → ℕ → List ℕ
    value v b = one_value v (cases_lt v (length opened.volumes)) (stopped x v) refl b

    inside_x : IsTrue old.tells → (v b : ℕ) → v < length last.volumes → b < blocks_of opened.volumes v → Inside last v b
    inside_x tells v b lt within = record { volume = lt; within = let a = (extends_x can x opened up.readable up.image up.read up.is up.opens tells).blocks v lt in let z = blocks_x v in omega (arith, a, z, within) }

    -- a volume more than before stopped uncleanly
    more_stopped : IsTrue old.tells → (v : ℕ) → length last.volumes ≤ v → v < length opened.volumes → stopped x v ≡ true
    more_stopped tells v past lt =
        let sound = sound_found up.image x (found_x can x opened up.readable up.image up.read up.is up.opens tells) in
        let on = sound_chosen x sound v (omega (arith, lt, x_long)) in
        stopped_by x v (chosen x v) ((extends_x can x opened up.readable up.image up.read up.is up.opens tells).fresh v (chosen x v) past on)

    has_by : (v b : ℕ) (y : List ℕ) (o : (v < length opened.volumes) ⊎ (length opened.volumes ≤ v)) (t : Bool) (is : stopped x v ≡ t) → v < length opened.volumes → b < blocks_of opened.volumes v → (inner_meaning core new).leaves v b y
        → (note.inside v ≡ true) ⊎ (y ≡ (if t then one_value v o t is b else note.bytes.block v b)) ⊎ Contains (if t then [] else note.others v b) y
    has_by v b y (inl lt) true is there within left = inr (inl ((r.mended v lt is).one b y (record { volume = there; within = within }) left))
    has_by v b y (inl lt) false is there within left =
        let on = was_opened can x opened up.readable up.image up.read up.is up.opens (inner_meaning core new) (λ w. 0) r.goes v b y (record { volume = there; within = within }) left in
        let tells = told can x opened up.readable up.image up.read up.is up.opens (place opened v on.plex b).0 (place opened v on.plex b).1 y on.value in
        elim (cases_lt v (length last.volumes)) [
          | inl low ↦ may_opened can x opened up.readable up.image up.read up.is up.opens v on.plex b (inside_x tells v b low within) (on_live opened v on.plex on.is_on) y on.value
          | inr past ↦ absurd (let clash : false ≡ true = sym is ∙ more_stopped tells v past lt in cc)
        ]
    has_by v b y (inr le) t is there within left = absurd (omega (arith, le, there))

    returned_holds : HoldsPlain (note_imported core (λ v. stopped x v) value note) (inner_meaning core new)
    returned_holds = record {
      size = λ v. refl;
      has = λ v b y there within left.
          has_by v b y (cases_lt v (length opened.volumes)) (stopped x v) refl (let a = r.goes.units in omega (arith, there, a)) (let a = r.goes.size v in omega (arith, within, a)) left;
    }

    may_by : IsTrue old.tells → (v b : ℕ) (o : (v < length opened.volumes) ⊎ (length opened.volumes ≤ v)) (t : Bool) (is : stopped x v ≡ t) → Inside last v b → t ≡ true → BlockMay note v b (one_value v o t is b)
    may_by tells v b (inl lt) true is inside on =
        let ext = extends_x can x opened up.readable up.image up.read up.is up.opens tells in
        let sound = sound_found up.image x (found_x can x opened up.readable up.image up.read up.is up.opens tells) in
        let in_opened : Inside opened v b = record { volume = lt; within = let a = ext.blocks v inside.volume in let z = blocks_x v in let w = inside.within in omega (arith, a, z, w) } in
        let mend = r.mended v lt is in
        may_opened can x opened up.readable up.image up.read up.is up.opens v (chosen x v) b inside
        (live_x can x opened up.readable up.image up.read up.is up.opens v (chosen x v) ∙ sound_chosen x sound v (omega (arith, lt, x_long))) (mend.value b)
        (law.shown (place opened v (chosen x v) b).0 (place opened v (chosen x v) b).1 (mend.value b) (mend.origin b in_opened tells))
    may_by tells v b (inl lt) false is inside on = absurd (let clash : false ≡ true = on in cc)
    may_by tells v b (inr le) t is inside on =
        absurd (let a = (extends_x can x opened up.readable up.image up.read up.is up.opens tells).volumes in let lt = inside.volume in omega (arith, a, lt, le, x_long))

    disks_back : DisksBack core.config old new
    disks_back = record {
      count = wanted_count new.units new.size core.config r.stands.wanted ∙ same.units;
      blocks = λ u low.
          let there : u < length core.config.disks = (let is = wanted_count new.units new.size core.config r.stands.wanted in let units = same.units in omega (arith, low, is, units)) in
          sym (blocks_same core.config.disks u there) ∙ sym ((disks_fit core.config new r.stands.wanted).size u there) ∙ same.size u;
      failed = λ u low failed. by u low failed (failed_at opened.disks u) refl;
    }
      where
        by : (u : ℕ) → u < old.units → failed_at core.config.disks u ≡ true → (t : Bool) → failed_at opened.disks u ≡ t → Rose (old.faults u) (new.faults u)
        by u low failed true was =
            let first : 0 + u ≡ u = omega arith in
            up.blamed u low (subst (λ (k : ℕ). up.readable k ≡ false) first (returned_failed up.readable 0 x.disks u (sym (ap (λ (ds : List DiskEntry). failed_at ds u) up.opens.alike.disks) ∙ was)))
        by u low failed false was = r.loses.disks.blamed u was failed

    -- a volume that was not renewed stopped cleanly
    stops_at : IsTrue old.tells → (v : ℕ) → v < length opened.volumes → (t : Bool) → stopped x v ≡ t → (stopped x v ≡ true) ⊎ StoppedSome old v
    stops_at tells v low true is = inl is
    stops_at tells v low false is = inr (record {
      image = up.image;
      config = x;
      each = seen_image can x opened up.readable up.image up.read up.is up.opens tells;
      finds = found_x can x opened up.readable up.image up.read up.is up.opens tells;
      clean = clean_of x v is;
      low = omega (arith, low, x_long);
    })

    -- each plex that takes part is ACTIVE in what was opened
    opened_on : IsTrue old.tells → AllOn opened
    opened_on tells = record {
      each = λ v p is.
          let there = live_there x (sound_found up.image x (found_x can x opened up.readable up.image up.read up.is up.opens tells)) v p (sym (live_x can x opened up.readable up.image up.read up.is up.opens v p) ∙ is) in
          up.opens.on v p (omega arith) there.0 there.1 is;
    }

    opened_state : IsTrue old.tells → (v k : ℕ) (p q : PlexEntry) → plex_at x v k ≡ Some p → plex_at opened v k ≡ Some q → q.state ≡ live_again p.state
    opened_state tells v k p q at_p at_q =
        opened_as p.state q.state (sym (live_entry opened v k q at_q) ∙ live_x can x opened up.readable up.image up.read up.is up.opens v k ∙ live_entry x v k p at_p)
        (λ on. sym (on_there opened v k q at_q) ∙ (opened_on tells).each v k (live_entry opened v k q at_q ∙ on))

    taken_opened : IsTrue old.tells → TakesOpened old core.config new
    taken_opened tells = record {
      image = up.image;
      config = x;
      opened = opened;
      each = seen_image can x opened up.readable up.image up.read up.is up.opens tells;
      finds = found_x can x opened up.readable up.image up.read up.is up.opens tells;
      sound = sound_found up.image x (found_x can x opened up.readable up.image up.read up.is up.opens tells);
      count = wanted_count old.units old.size x (found_wanted old up.readable up.image x up.is);
      site = up.opens.alike.site;
      rvg = up.opens.alike.rvg;
      frames = λ v. up.opens.alike.shape.frames v;
      states = opened_state tells;
      on = opened_on tells;
      loses = r.loses;
    }

    pub group_returns : (group : GroupCore) → group.inner ≡ core → group.held ≡ None → VolumesReturn n note last old group new
    group_returns group is none = record {
      renewed = λ v. stopped x v;
      value = value;
      units = same.units ∙ away.units;
      size = λ u low. same.size u ∙ away.size u low;
      holds = subst (λ (i : Inner). HoldsPlain (note_imported i (λ v. stopped x v) value note) (inner_meaning (wide group) new)) (sym is)
          (subst (λ (i : Inner). HoldsPlain (note_imported core (λ v. stopped x v) value note) (inner_meaning i new)) (sym (wide_none group none ∙ is)) returned_holds);
      volumes = λ tells. let a = (extends_x can x opened up.readable up.image up.read up.is up.opens tells).volumes in let count = ap (λ (i : Inner). length i.config.volumes) is in let b = r.goes.units in omega (arith, a, b, count, x_long);
      sizes = λ tells v lt. ap (λ (i : Inner). blocks_of i.config.volumes v) is ∙ r.goes.size v ∙ blocks_x v ∙ (extends_x can x opened up.readable up.image up.read up.is up.opens tells).blocks v lt;
      frames = λ tells v lt. ap (λ (i : Inner). frame_at i.config v) is ∙ r.loses.frames v ∙ up.opens.alike.shape.frames v ∙ (extends_x can x opened up.readable up.image up.read up.is up.opens tells).frames v lt;
      names = λ tells v lt. names_of group.inner.config last v v (ap (λ (i : Inner). frame_at i.config v) is ∙ r.loses.frames v ∙ up.opens.alike.shape.frames v ∙ (extends_x can x opened up.readable up.image up.read up.is up.opens tells).frames v lt);
      disks = subst (λ (i : Inner). DisksBack i.config old new) (sym is) disks_back;
      may = λ tells v b inside on. may_by tells v b (cases_lt v (length opened.volumes)) (stopped x v) refl inside on;
      stops = λ tells v low.
          let count = ap (λ (i : Inner). length i.config.volumes) is in
          let units = r.goes.units in
          stops_at tells v (omega (arith, low, count, units)) (stopped x v) refl;
      takes = λ tells. subst (λ (i : Inner). TakesOpened old i.config new) (sym is) (taken_opened tells);
    }

  -- ---- refused behind what was taken up

  module _ (new : Meaning) (law' : Lawful new) (can : CanImport old) (h : HalfResumed old new) (same : SameUnits old new) (none : HasNoMore last old) where
    abbrev was : Config
    was = h.config

    abbrev part : TakenUp old new was h.opened
    part = h.taken

    exact : IsTrue old.tells → length was.volumes ≡ length last.volumes
    exact tells =
        none.each part.image was (seen_image can was h.opened part.readable part.image part.read part.is part.opens tells) (found_x can was h.opened part.readable part.image part.read part.is part.opens tells)

    told_new : (i : Image) → Each new.leaves i → IsTrue old.tells
    told_new i each = elim (cases_bool old.tells) [
      | inl tells ↦ tells
      | inr not ↦ absurd (law'.none (h.goes.tells ∙ not) 0 0 (i 0 0) (each 0 0))
    ]

    to_last : (z : Config) → IsTrue old.tells → Extends z h.core.config → Extends z last
    to_last z tells more =
        then_extends z was last
        (extends_volumes z (returned part.readable was) was refl (extends_shape z h.opened (returned part.readable was) (extends_shape z h.core.config h.opened more h.shape) part.opens.alike.shape))
        (extends_x can was h.opened part.readable part.image part.read part.is part.opens tells) (exact tells)

    half_has : (i : Image) (z : Config) → Each new.leaves i → found new i ≡ Found z → (v p b : ℕ) → Inside last v b → IsTrue (live z v p) → BlockMay note v b (i (place z v p b).0 (place z v p b).1)
    half_has i z each is v p b inside on =
        let tells = told_new i each in
        let kin = h.stands.kept.kin i z each is in
        let ext = extends_x can was h.opened part.readable part.image part.read part.is part.opens tells in
        let in_opened : Inside h.opened v b = record {
          volume = let a = exact tells in let k = part.opens.alike.shape.volumes in let lt = inside.volume in omega (arith, a, k, lt);
          within = let a = ext.blocks v inside.volume in let k = part.opens.alike.shape.blocks v in let lt = inside.within in omega (arith, a, k, lt);
        } in
        let in_core : Inside h.core.config v b = inside_back h.core.config h.opened h.shape v b in_opened in
        let u = (place h.core.config v p b).0 in
        let k = (place h.core.config v p b).1 in
        let shown = was_opened can was h.opened part.readable part.image part.read part.is part.opens (inner_meaning h.core new) (λ w. 0) h.goes v b (i u k) in_opened
        (inl (record { inside = in_core; plex = p; is_on = kin.on v p in_core.volume on; value = each u k })) in
        subst (λ (at : ℕ × ℕ). BlockMay note v b (i at.0 at.1)) (sym (kin.shape.place v p b in_core.volume))
        (may_opened can was h.opened part.readable part.image part.read part.is part.opens v shown.plex b inside (on_live h.opened v shown.plex shown.is_on) (i u k) shown.value)

    half_away : AwayLies n (note_loose note) last new
    half_away = record {
      units = same.units ∙ away.units;
      size = λ u low. same.size u ∙ away.size u low;
      can = λ tight. absurd (let clash : true ≡ false = tight in cc);
      sizes = away.sizes;
      finds = h.stands.kept.finds;
      volumes = λ i z each is. to_last z (told_new i each) (h.stands.kept.kin i z each is).shape;
      has = half_has;
    }

  pub import_left : (new : Meaning) → Lawful new → CanImport old → SameUnits old new → CanImportBehind new → (stop : Stop) → ImportStops old new stop → ImportLeft n note last old new
  import_left new law' can same behind stop (inl early) = inl (still_away new early.0)
  import_left new law' can same behind stop (inr late) = inr (behind, λ none. half_away new law' can late.0 same none)

-- so it is once more where an import may go over them, as behind a crash
pub away_again : (n : Node) (note : GroupNode) (last : Config) (m : Meaning) → CanImport m → AwayLies n (note_loose note) last m → AwayLies n note last m
away_again n note last m can it = record { units = it.units; size = it.size; can = λ tight. can; sizes = it.sizes; finds = it.finds; volumes = it.volumes; has = it.has }
