-- What was said of sites before stays true of later states of them.
use Rattle.std.proofs.Common.{◌≡◌, ℕ, ◌≤◌, List, length, arith, refl, sym, ap, subst, ◌∙◌, Bool, true, false}
use Rattle.std.specs.Prelude.{◌||◌}
use Rattle.std.specs.List.{AllByRecursion}
use Rattle.vx_model.specs.Content.{Write, IsPrefixOf}
use Rattle.vx_history.specs.World.{Node, Link, History, Packet, Promise, Message, Surety, Hello, Update, NetAck, DataAck, Durable, InSession}
use Rattle.vx_model.specs.Sites.{is_origin}
use Rattle.vx_history.specs.Good.{IsMade}
use Rattle.vx_history.specs.GoodCopies.{GoodMode}
use Rattle.vx_model.specs.declared.history.Line.{Line}
use Rattle.vx_model.specs.declared.site.Mark.TheVariants.{Consistent}
use Rattle.vx_model.specs.declared.site.Role.{Role}
use Rattle.vx_model.specs.declared.site.Role.TheVariants.{Primary, Secondary, Handing, Bunker}
use Rattle.vx_history.specs.Refusals.{keeps_links, is_bunker}
use Rattle.vx_model.specs.declared.site.SiteState.TheVariants.{Up}
use Rattle.vx_history.specs.Sound.{IsPresent, IsFollowed, HasStored, has_line, HasCome, GoodLink, GoodMessage, GoodPacket, IsKept, GoodPromise, IsStranger, StrangerSays}
use Rattle.vx_world.proofs.Lists.{prefix_number, each_weaker}

-- b may come of a on the same line: no number that a answered for is lost, but those of a session that is over. Its mark, its phase and its
-- primary may be others; what rests on them is shown where they are used.
pub record IsLater (a b : Node) : Type 0 where
  pub line : b.line ≡ a.line
  pub origin : is_origin b.role ≡ is_origin a.role
  pub bunker : is_bunker b.role ≡ is_bunker a.role
  pub session : a.session ≤ b.session
  pub safe : a.safe ≤ b.safe
  pub stored : (k : ℕ) → HasStored a k → HasStored b k
  -- of an origin nothing is said that is in its memory alone
  pub present : is_origin b.role ≡ false → b.state ≡ Up → b.session ≡ a.session → (a.state ≡ Up) × (length a.log ≤ length b.log)
  pub made : IsMade a → IsMade b
  pub top : a.top ≤ b.top
  pub stood : b.stood ≡ a.stood

-- in the same phase of a replay to the same end, and no less consistent
pub stored_still : (a b : Node) → a.safe ≤ b.safe → b.phase ≡ a.phase → b.end ≡ a.end → (a.mark ≡ Consistent → b.mark ≡ Consistent) → (k : ℕ)
    → HasStored a k → HasStored b k
stored_still a b safe phase end mark k (disk, ended) = (omega (arith, safe, disk), λ by e. mark (ended (sym phase ∙ by) (omega (arith, e, end))))

pub later_same : (a : Node) → IsLater a a
later_same a = record {
  line = refl;
  origin = refl;
  bunker = refl;
  session = omega arith;
  safe = omega arith;
  stored = λ k h. h;
  present = λ _ up _.
      (up, omega arith);
  made = λ m. m;
  top = omega arith;
  stood = refl;
}

-- who sends sends still
sender_is : (r : Role) → keeps_links r ≡ (is_origin r || is_bunker r)
sender_is Primary = refl
sender_is Secondary = refl
sender_is (Handing to) = refl
sender_is Bunker = refl

pub sender_later : (a b : Node) → IsLater a b → keeps_links a.role ≡ true → keeps_links b.role ≡ true
sender_later a b later e =
    sender_is b.role
    ∙ ap (λ (x : Bool). x || is_bunker b.role) later.origin
    ∙ ap (λ (x : Bool). is_origin a.role || x) later.bunker
    ∙ sym (sender_is a.role) ∙ e

pub origin_sends : (r : Role) → is_origin r ≡ true → keeps_links r ≡ true
origin_sends r o = sender_is r ∙ ap (λ (x : Bool). x || is_bunker r) o

-- a site that is up is an origin, and stands on the line
abbrev pub OriginHere : Node → Line → Type 0
OriginHere b line = (b.state ≡ Up) × (b.line ≡ line) × (is_origin b.role ≡ true)

-- a number that was in memory in some session is in memory while that session lasts; and of an origin there is none
module _ (a b : Node) (later : IsLater a b) where
  present_later : (line : Line) (session number : ℕ) → session ≤ a.session → (OriginHere b line → number ≤ 0)
      → (a.line ≡ line → IsPresent a session → number ≤ length a.log) → b.line ≡ line → IsPresent b session → number ≤ length b.log
  present_later line session number old none h e (up, is) = by_role (is_origin b.role) refl
    where
      by_role : (o : Bool) → is_origin b.role ≡ o → number ≤ length b.log
      by_role true o = omega (arith, none (up, e, o))
      by_role false r =
          let same : b.session ≡ a.session = omega (arith, is, old, later.session) in
          let still = later.present r up same in
          omega (arith, still.1, h (sym later.line ∙ e) (still.0, sym same ∙ is))

  pub message_later : (f g : List Write) (line : Line) (to from : Type 0) → IsPrefixOf f g → (OriginHere b line → from) → (m : Message)
      → StrangerSays to from m → GoodMessage f a line m → GoodMessage g b line m
  message_later f g line to from grow strange (Update number x) known h = prefix_number f g number x grow h
  message_later f g line to from grow strange (NetAck session number) known (old, h) =
      (omega (arith, old, later.session), present_later line session number old (λ o. known (strange o)) h)
  message_later f g line to from grow strange (Hello session number stored) known (old, h, k) =
      (omega (arith, old, later.session), present_later line session number old (λ o. (known (strange o)).0) h, λ e. later.stored stored (k (sym later.line ∙ e)))
  message_later f g line to from grow strange (DataAck number) known h = λ e. later.stored number (h (sym later.line ∙ e))

  pub kept_later : (line : Line) (number : ℕ) (s : Surety) → (OriginHere b line → ⊥) → IsKept a line number s → IsKept b line number s
  kept_later line number Durable none h = λ e. omega (arith, h (sym later.line ∙ e), later.safe)
  kept_later line number (InSession session) none (old, h) =
      (omega (arith, old, later.session), present_later line session number old (λ o. absurd (none o)) h)

-- what the mode of a link to site s says of it, by the record of the line
abbrev pub LinkSays : History → ℕ → Node → Link → Type 0
LinkSays h s b l = GoodMode h.held (h.replays s) b l.map l.stored l.mode

pub link_later : (f g : History) (p s : ℕ) (a b c d : Node) (l : Link) → IsLater a c → IsLater b d
    → (is_origin c.role ≡ true → IsFollowed c d l → LinkSays f s b l → LinkSays g s d l) → GoodLink f p s a b l → GoodLink g p s c d l
link_later f g p s a b c d l later_a later_b modes good =
    let was : IsFollowed c d l → IsFollowed a b l = λ (is, r, e). (is, sym later_b.origin ∙ r, sym later_b.line ∙ e ∙ later_a.line) in
    record {
      ends = λ is. (later_a.made (good.ends is).0, later_b.made (good.ends is).1);
      starts = λ is. sender_later a c later_a (good.starts is);
      apart = good.apart;
      came = λ is. ap (λ (ls : List Line). has_line ls c.line) later_b.stood ∙ ap (λ (k : Line). has_line b.stood k) later_a.line ∙ good.came is;
      session = λ is. omega (arith, good.session is, later_b.session);
      stored = λ v. later_b.stored l.stored (good.stored (was v));
      net = λ v (up, same).
          let old : d.session ≡ b.session = omega (arith, same, good.session v.0, later_b.session) in
          let still = later_b.present v.1 up old in
          omega (arith, still.1, good.net (was v) (still.0, sym old ∙ same));
      says = λ o v. modes o v (good.says (sym later_a.origin ∙ o) (was v));
    }

-- who is no stranger stays none
pub says_later : (to from to' from' : Type 0) → (to' → to) → (from' → from) → (m : Message) → StrangerSays to from m → StrangerSays to' from' m
says_later to from to' from' f g (Update number x) h = λ q. h (f q)
says_later to from to' from' f g (NetAck session number) h = λ q. h (g q)
says_later to from to' from' f g (Hello session number stored) h = λ q. h (g q)
says_later to from to' from' f g (DataAck number) h = λ q. h (g q)

-- who came to a line came to it
pub come_later : (f g : ℕ → Node) → ((i : ℕ) → IsLater (f i) (g i)) → (i : ℕ) (line : Line) → HasCome f i line → HasCome g i line
come_later f g later i line h = record {
  here = (later i).made h.here;
  there = (later line.origin).made h.there;
  top = omega (arith, h.top, (later i).top);
  named = omega (arith, h.named, (later line.origin).top);
  rises = λ e. subst (λ (k : Line). line.generation ≤ k.generation) (sym (later i).line) (h.rises (e ∙ ap (λ (k : Line). k.origin) (later i).line));
}

-- worlds of which one is later: its sites, their links and the lines
module _ (f g : ℕ → Node) (links more : ℕ → ℕ → Link) (later : (i : ℕ) → IsLater (f i) (g i))
    (before : (l : Line) (i : ℕ) → IsStranger g more l i → IsStranger f links l i)
    (origins : (i : ℕ) (l : Line) → OriginHere (g i) l → IsStranger g more l i) where
  pub packets_later : (h k : Line → History) → ((l : Line) → IsPrefixOf (h l).held (k l).held) → (ps : List Packet)
      → AllByRecursion (GoodPacket f links h) ps → AllByRecursion (GoodPacket g more k) ps
  packets_later h k grow ps good =
      each_weaker (GoodPacket f links h) (GoodPacket g more k)
      (λ p q. record {
        said = message_later (f p.source) (g p.source) (later p.source) (h p.line).held (k p.line).held p.line (IsStranger f links p.line p.target)
            (IsStranger f links p.line p.source) (grow p.line) (λ o. before p.line p.source (origins p.source p.line o)) p.message q.known q.said;
        known = says_later (IsStranger f links p.line p.target) (IsStranger f links p.line p.source) (IsStranger g more p.line p.target)
            (IsStranger g more p.line p.source) (before p.line p.target) (before p.line p.source) p.message q.known;
        came = ap (λ (ls : List Line). has_line ls p.line) (later p.source).stood ∙ q.came;
      })
      ps good

  pub promises_later : (es : List Promise) → AllByRecursion (GoodPromise f links) es → AllByRecursion (GoodPromise g more) es
  promises_later es good =
      each_weaker (GoodPromise f links) (GoodPromise g more)
      (λ e q. record {
        kept = kept_later (f e.site) (g e.site) (later e.site) e.line e.number e.surety
            (λ o. q.known (before e.line e.site (origins e.site e.line o))) q.kept;
        known = λ r. q.known (before e.line e.site r);
        came = ap (λ (ls : List Line). has_line ls e.line) (later e.site).stood ∙ q.came;
      })
      es good
