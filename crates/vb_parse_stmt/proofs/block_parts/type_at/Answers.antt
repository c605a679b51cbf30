use Rattle.vb_parse_stmt.proofs.block_parts.type_at.Goals as goal

pub returns-in-Err-Refused : goal.returns-in-Err-Refused
returns-in-Err-Refused c =
    let told = rw c.in-Err-Refused.field-0-is at c.in-Err-Refused.ensures in
    (λ p q. told.0 p.0 _ q.1, c.refusal.ensures)
