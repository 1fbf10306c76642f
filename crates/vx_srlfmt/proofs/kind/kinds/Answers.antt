-- `kinds`: clauses is, only, body_is_no_header, body_is_no_record and body_is_not_damaged.
use Rattle.vx_srlfmt.proofs.KindLaws.{kind_of-is, kind_of-only, header_not_body, record_not_body, damaged_not_body}
use Rattle.vx_srlfmt.proofs.kind.kinds.Goals as goal

pub returns-clause-is : goal.returns-clause-is
returns-clause-is c = kind_of-is

pub returns-clause-only : goal.returns-clause-only
returns-clause-only c = kind_of-only

pub returns-clause-body_is_no_header : goal.returns-clause-body_is_no_header
returns-clause-body_is_no_header c block h body is = header_not_body block h is body

pub returns-clause-body_is_no_record : goal.returns-clause-body_is_no_record
returns-clause-body_is_no_record c block r body is = record_not_body block r is body

pub returns-clause-body_is_not_damaged : goal.returns-clause-body_is_not_damaged
returns-clause-body_is_not_damaged c block body is = damaged_not_body block is body
