-- Level by level: the page is searched, and what will stand in the place of the entry found is planned first. Assumes nothing.
use Rattle.table_plan.proofs.+plan_page.Given as goal

abbrev pub decreases-plan_page : goal.decreases-plan_page
decreases-plan_page l = l.level
