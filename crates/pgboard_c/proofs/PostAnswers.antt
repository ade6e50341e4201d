-- What a session answers to a claim, said of the arrays that the claim is of.
use Rattle.pgboard_c.proofs.Common.{◌≡◌, refl, subst}
use Rattle.std.specs.Prelude.{Ok, Err}
use Rattle.pg_dominion.specs.declared.claim.Claim.{Claim}
use Rattle.pg_board.specs.declared.journal.Posted.{Posted}
use Rattle.pg_board.specs.declared.journal.Refusal.{Refusal}
use Rattle.pg_board.specs.BoardRecord.{BoardRecord}
use Rattle.pg_board.specs.Post.{IsPostAnswer}
use Rattle.pgboard_c.specs.declared.board.PostedNumbers.{PostedNumbers}
use Rattle.pgboard_c.specs.Posting.{ClaimLists, claim_of_lists, IsClaim, IsPosted, IsRefused, refusal_fault}

pub posted_of : (s t : BoardRecord) (c : ClaimLists) (claim : Claim) (x : Posted) (n : PostedNumbers) → claim ≡ claim_of_lists c → IsClaim c
    → IsPostAnswer s t c.worker claim (Ok x) → n.entry ≡ x.entry → n.claimed ≡ x.claimed → n.settled ≡ x.settled → IsPosted s t c n
posted_of s t c claim x n e is answer entry claimed settled = record {
  claim = is;
  posted = x;
  answer = subst (λ (d : Claim). IsPostAnswer s t c.worker d (Ok x)) e answer;
  entry = entry;
  claimed = claimed;
  settled = settled;
}

pub refused_of : (s t : BoardRecord) (c : ClaimLists) (claim : Claim) (r : Refusal) → claim ≡ claim_of_lists c → IsClaim c
    → IsPostAnswer s t c.worker claim (Err r) → IsRefused s c (refusal_fault r)
refused_of s t c claim r e is answer = record {
  claim = is;
  refusal = r;
  answer = subst (λ (d : Claim). IsPostAnswer s s c.worker d (Err r)) e
      (subst (λ (u : BoardRecord). IsPostAnswer s u c.worker claim (Err r)) answer.unchanged answer);
  fault_is = refl;
}
