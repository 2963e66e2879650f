mod Answered
mod Counting
mod Ended
mod Printed
mod Sessions
