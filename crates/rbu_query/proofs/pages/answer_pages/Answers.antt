use Rattle.rbu_query.proofs.pages.answer_pages.Goals as goal

pub returns-in-Dump-clause-pages : goal.returns-in-Dump-clause-pages
returns-in-Dump-clause-pages g c = rw c.in-Dump.is c.dump_pages.ensures.pages

pub returns-in-Check-clause-pages : goal.returns-in-Check-clause-pages
returns-in-Check-clause-pages g c = rw c.in-Check.is c.check_pages.ensures.pages
