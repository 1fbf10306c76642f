-- The packets of messages that stand one behind another.
use Rattle.std.proofs.Common.{◌≡◌, ◌∙◌, ℕ, zero, suc, ◌+◌, ◌-◌, ◌<◌, List, [], ◌∷◌, ◌++◌, length, get_or, take, append_assoc, refl, sym, ap, subst, arith}
use Rattle.std.specs.Prelude.{Some, slice_get}
use Rattle.std.proofs.lemmas.List.{length-append, append-nil}
use Rattle.vx_model.specs.declared.history.Line.{Line}
use Rattle.vx_history.specs.World.{Message, Packet}
use Rattle.vx_history.specs.Sends.{packet, packets_from, packets_of, parts_of}
use Rattle.vx_sites.specs.declared.packet.Dispatch.{Dispatch}
use Rattle.vx_sites.specs.Messages.{message_of, packets_in}

-- so many packets are so many
so_many : (s t : ℕ) (line : Line) (m : Message) (first count : ℕ) → length (packets_from s t line m first count) ≡ count
so_many s t line m first zero = refl
so_many s t line m first (suc k) = ap suc (so_many s t line m (first + 1) k)

-- one of them, whatever stands behind
one_of : (s t : ℕ) (line : Line) (m : Message) (first count : ℕ) (rest : List Packet) (k : ℕ) → k < count
    → slice_get (packets_from s t line m first count ++ rest) k ≡ Some (packet s t line m (first + k))
one_of s t line m first zero rest k lt = absurd (omega arith)
one_of s t line m first (suc n) rest zero lt =
    let here : first ≡ first + 0 = omega arith in ap (λ (k : ℕ). Some (packet s t line m k)) here
one_of s t line m first (suc n) rest (suc k) lt =
    let here : first + 1 + k ≡ first + suc k = omega arith in
    one_of s t line m (first + 1) n rest k (omega arith) ∙ ap (λ (i : ℕ). Some (packet s t line m i)) here

-- what stands behind other packets
behind : (ps rest : List Packet) (k : ℕ) → slice_get (ps ++ rest) (length ps + k) ≡ slice_get rest k
behind [] rest k = let here : 0 + k ≡ k = omega arith in ap (λ (i : ℕ). slice_get rest i) here
behind (p ∷ ps) rest k =
    let here : suc (length ps) + k ≡ suc (length ps + k) = omega arith in
    ap (λ (i : ℕ). slice_get (p ∷ (ps ++ rest)) i) here ∙ behind ps rest k

-- one more message is sent
pub packets_in-push : (ds : List Dispatch) (d : Dispatch) → packets_in (ds ++ d ∷ []) ≡ packets_in ds ++ packets_of d.source d.target d.line (message_of d.message)
packets_in-push [] d = append-nil (packets_of d.source d.target d.line (message_of d.message))
packets_in-push (e ∷ ds) d =
    let first : List Packet = packets_of e.source e.target e.line (message_of e.message) in
    ap (λ (ps : List Packet). first ++ ps) (packets_in-push ds d)
    ∙ sym (append_assoc first (packets_in ds) (packets_of d.source d.target d.line (message_of d.message)))

pub length-push : (ds : List Dispatch) (d : Dispatch) → length (packets_in (ds ++ d ∷ [])) ≡ length (packets_in ds) + parts_of (message_of d.message)
length-push ds d =
    ap length (packets_in-push ds d)
    ∙ length-append (packets_in ds) (packets_of d.source d.target d.line (message_of d.message))
    ∙ ap (λ (n : ℕ). length (packets_in ds) + n) (so_many d.source d.target d.line (message_of d.message) 0 (parts_of (message_of d.message)))

none_in : (ds : List Dispatch) → packets_in (take 0 ds) ≡ []
none_in [] = refl
none_in (d ∷ ds) = refl

-- how many packets are sent with one more message of a list
pub up_to : (ds : List Dispatch) (i : ℕ) (d : Dispatch) → i < length ds → d ≡ get_or ds i d
    → length (packets_in (take (i + 1) ds)) ≡ length (packets_in (take i ds)) + parts_of (message_of d.message)
up_to [] i d lt is = absurd (omega arith)
up_to (e ∷ ds) zero d lt is =
    let m : Message = message_of e.message in
    let first : List Packet = packets_of e.source e.target e.line m in
    let none : parts_of m ≡ 0 + parts_of m = omega arith in
    ap (λ (ps : List Packet). length (first ++ ps)) (none_in ds)
    ∙ ap length (append-nil first)
    ∙ so_many e.source e.target e.line m 0 (parts_of m)
    ∙ none
    ∙ ap (λ (x : Dispatch). 0 + parts_of (message_of x.message)) (sym is)
up_to (e ∷ ds) (suc i) d lt is =
    let first : List Packet = packets_of e.source e.target e.line (message_of e.message) in
    let n : ℕ = parts_of (message_of d.message) in
    let next : suc i + 1 ≡ suc (i + 1) = omega arith in
    let sum : length first + (length (packets_in (take i ds)) + n) ≡ length first + length (packets_in (take i ds)) + n = omega arith in
    ap (λ (k : ℕ). length (packets_in (take k (e ∷ ds)))) next
    ∙ length-append first (packets_in (take (i + 1) ds))
    ∙ ap (λ (k : ℕ). length first + k) (up_to ds i d (omega arith) is)
    ∙ sum
    ∙ ap (λ (k : ℕ). k + n) (sym (length-append first (packets_in (take i ds))))

-- the packet of a part
pub part_found : (ds : List Dispatch) (i part : ℕ) (d : Dispatch) → i < length ds → d ≡ get_or ds i d → part < parts_of (message_of d.message)
    → slice_get (packets_in ds) (length (packets_in (take i ds)) + part) ≡ Some (packet d.source d.target d.line (message_of d.message) part)
part_found [] i part d lt is few = absurd (omega arith)
part_found (e ∷ ds) zero part d lt is few =
    let here : 0 + part ≡ part = omega arith in
    let of_e : part < parts_of (message_of e.message) = subst (λ (x : Dispatch). part < parts_of (message_of x.message)) is few in
    ap (λ (k : ℕ). slice_get (packets_in (e ∷ ds)) k) here
    ∙ one_of e.source e.target e.line (message_of e.message) 0 (parts_of (message_of e.message)) (packets_in ds) part of_e
    ∙ ap (λ (k : ℕ). Some (packet e.source e.target e.line (message_of e.message) k)) here
    ∙ ap (λ (x : Dispatch). Some (packet x.source x.target x.line (message_of x.message) part)) (sym is)
part_found (e ∷ ds) (suc i) part d lt is few =
    let first : List Packet = packets_of e.source e.target e.line (message_of e.message) in
    let before : ℕ = length (packets_in (take i ds)) in
    let sum : length first + before + part ≡ length first + (before + part) = omega arith in
    ap (λ (k : ℕ). slice_get (first ++ packets_in ds) (k + part)) (length-append first (packets_in (take i ds)))
    ∙ ap (λ (k : ℕ). slice_get (first ++ packets_in ds) k) sum
    ∙ behind first (packets_in ds) (before + part)
    ∙ part_found ds i part d (omega arith) is few

-- one more message is sent, told of the packets
pub sent_more : (ds : List Dispatch) (d : Dispatch) (now : List Dispatch) (told : List Packet) → packets_in ds ≡ told → now ≡ ds ++ d ∷ []
    → packets_in now ≡ told ++ packets_of d.source d.target d.line (message_of d.message)
sent_more ds d now told view is =
    ap packets_in is ∙ packets_in-push ds d ∙ ap (λ (ps : List Packet). ps ++ packets_of d.source d.target d.line (message_of d.message)) view

pub count_more : (ds : List Dispatch) (d : Dispatch) (now : List Dispatch) (count more : ℕ) → now ≡ ds ++ d ∷ [] → count ≡ length (packets_in ds) → more ≡ count + parts_of (message_of d.message)
    → more ≡ length (packets_in now)
count_more ds d now count more is counted m =
    m ∙ ap (λ (n : ℕ). n + parts_of (message_of d.message)) counted ∙ sym (ap (λ (xs : List Dispatch). length (packets_in xs)) is ∙ length-push ds d)

-- the packet of a number, of the messages that are looked through
pub picked : (ds looked : List Dispatch) (told : List Packet) (number i part : ℕ) (d : Dispatch) (m : Message) → packets_in ds ≡ told → looked ≡ ds
    → i < length looked → d ≡ get_or ds i d → ((x : Dispatch) → part < parts_of (message_of (get_or looked i x).message))
    → number ≡ length (packets_in (take i looked)) + part + 1 → m ≡ message_of d.message → slice_get told (number - 1) ≡ Some (packet d.source d.target d.line m part)
picked ds looked told number i part d m view same lt is few numbered copied =
    let here : d ≡ get_or looked i d = is ∙ ap (λ (xs : List Dispatch). get_or xs i d) (sym same) in
    let few' : part < parts_of (message_of d.message) = subst (λ (x : Dispatch). part < parts_of (message_of x.message)) (sym here) (few d) in
    let at : number - 1 ≡ length (packets_in (take i looked)) + part = omega arith in
    ap (λ (ps : List Packet). slice_get ps (number - 1)) (sym view ∙ ap packets_in (sym same))
    ∙ ap (λ (k : ℕ). slice_get (packets_in looked) k) at
    ∙ part_found looked i part d lt here few'
    ∙ ap (λ (x : Message). Some (packet d.source d.target d.line x part)) (sym copied)

-- where the message before begins, of those that are looked through from the last on
pub one_before : (ds : List Dispatch) (back end parts : ℕ) (d : Dispatch) → back < length ds → d ≡ get_or ds (length ds - 1 - back) d
    → parts ≡ parts_of (message_of (get_or ds (length ds - 1 - back) d).message) → end ≡ length (packets_in (take (length ds - back) ds)) → end ≡ length (packets_in (take (length ds - 1 - back) ds)) + parts
one_before ds back end parts d lt is many ends =
    let place : ℕ = length ds - 1 - back in
    let next : length ds - back ≡ place + 1 = omega arith in
    let within : place < length ds = omega arith in
    ends
    ∙ ap (λ (k : ℕ). length (packets_in (take k ds))) next
    ∙ up_to ds place d within is
    ∙ ap (λ (k : ℕ). length (packets_in (take place ds)) + k) (sym (many ∙ ap (λ (x : Dispatch). parts_of (message_of x.message)) (sym is)))
