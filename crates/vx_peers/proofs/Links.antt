-- What an event that comes to a link leaves of it.
use Rattle.std.proofs.Common.{◌≡◌, ℕ, refl}
use Rattle.std.specs.Prelude.{◌&&◌, eqb, ltb}
use Rattle.vx_model.specs.declared.link.Link.{Link as PlainLink}
use Rattle.vx_history.specs.LinkForms.{plain_link, with_plain}
use Rattle.vx_history.specs.Sending.{Sent, by_log, sent_step}
use Rattle.vx_history.specs.World.{Link}
use Rattle.vx_history.specs.declared.sender.SEvent.TheVariants.{DataAck, Hello, NetAck}
use Rattle.vx_history.specs.declared.sender.SFacts.{SFacts}
use Rattle.vx_history.proofs.Updates.{by_test}

module _ (s : ℕ) (l : Link) (facts : SFacts) where
  -- the world's link with this is this again
  abbrev Again : PlainLink → Type 0
  Again k = plain_link s (with_plain l k) ≡ k

  abbrev k : PlainLink
  k = plain_link s l

  pub hello_again : (session number stored : ℕ) → Again (sent_step k (Hello session number stored) facts).link
  hello_again session number stored =
      by_test (λ (t : Sent). Again t.link) facts.line_ok _ _
      (λ here. by_test (λ (t : Sent). Again t.link) (ltb session k.session) _ _ (λ old. refl)
      (λ new. by_test Again (by_log k.mode) _ _
      (λ logs. by_test Again (ltb k.session session) _ _ (λ anew. refl) (λ same. refl))
      (λ apart. by_test Again (ltb k.session session) _ _ (λ anew. refl) (λ same. refl))))
      (λ other. refl)

  pub net_again : (session number : ℕ) → Again (sent_step k (NetAck session number) facts).link
  net_again session number =
      by_test (λ (t : Sent). Again t.link) facts.line_ok _ _
      (λ here. by_test (λ (t : Sent). Again t.link) (by_log k.mode && (eqb session k.session && ltb k.net number)) _ _ (λ tells. refl) (λ told. refl))
      (λ other. refl)

  pub data_again : (number : ℕ) → Again (sent_step k (DataAck number) facts).link
  data_again number =
      by_test (λ (t : Sent). Again t.link) facts.line_ok _ _
      (λ here. by_test (λ (t : Sent). Again t.link) (by_log k.mode && ltb k.stored number) _ _ (λ tells. refl) (λ told. refl))
      (λ other. refl)
